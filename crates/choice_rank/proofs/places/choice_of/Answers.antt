use Rattle.std.proofs.Common.{arith}
use Rattle.choice_rank.proofs.DigitLemmas.{written_back}
use Rattle.choice_rank.proofs.places.choice_of.Goals as goal

pub loop-i-preserved : goal.loop-i-preserved
loop-i-preserved c =
    written_back c.args.vars.now c.loop-i.at c.args.number c.loop-i.rest c.loop-i.i c.from-size.result
    c.requires.shape.positions (omega arith) (omega arith) c.from-size.ensures c.loop-i.invariant
