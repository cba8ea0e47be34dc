use Rattle.dma_rules.proofs.WantLemmas.{want_is_judged}
use Rattle.dma_rules.proofs.judge.can_be_judged.Goals as goal

pub returns : goal.returns
returns c = want_is_judged c.args.w.now c.keeps_bounds.ensures
