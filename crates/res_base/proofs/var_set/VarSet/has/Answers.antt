use Rattle.std.proofs.Common.{◌/◌, ◌%◌, refl, slice_index}
use Rattle.std.proofs.lemmas.Nat.Bits.{shr_and_one}
use Rattle.res_base.specs.VarSet.{in_set}
use Rattle.res_base.proofs.var_set.VarSet.has.Goals as goal

pub returns : goal.returns
unfolding in_set
returns c = rw (shr_and_one (slice_index c.args.self.now.words (c.args.v / 64)) (c.args.v % 64)) refl
