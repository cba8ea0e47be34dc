use Rattle.std.proofs.Common.{arith}
use Rattle.dma_rules.proofs.WantLemmas.{wanted_all}
use Rattle.dma_rules.proofs.want.wanted_of.Goals as goal

pub returns-clause-wanted : goal.returns-clause-wanted
returns-clause-wanted c = wanted_all c.args.table.now c.args.words.now c.loop-place.place c.loop-place.found (omega arith) c.loop-place.invariant
