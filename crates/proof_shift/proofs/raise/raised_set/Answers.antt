use Rattle.std.proofs.Common.{refl}
use Rattle.proof_shift.proofs.RaiseLemmas.{raised_is}
use Rattle.proof_shift.proofs.raise.raised_set.Goals as goal

pub returns : goal.returns
returns c = raised_is 160 c.args.vars.now c.moved.result refl c.moved.ensures.words c.requires c.moved.ensures.set
