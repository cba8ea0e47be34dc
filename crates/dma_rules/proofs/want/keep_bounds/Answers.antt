use Rattle.dma_rules.proofs.WantLemmas.{wanted_keep}
use Rattle.dma_rules.proofs.want.keep_bounds.Goals as goal

pub returns : goal.returns
returns c = wanted_keep c.args.table.now c.args.words.now c.args.wanted.now c.keeps_bounds.ensures c.requires.some c.requires.few c.requires.wanted
