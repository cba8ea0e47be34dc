use Rattle.std.proofs.Common.{ℕ, ◌/◌, ◌%◌, get_or, eqb, ap, ◌∙◌, arith}
use Rattle.std.specs.Int.{bit_at}
use Rattle.res_base.specs.VarSet.{in_set}
use Rattle.res_base.proofs.VarSetLemmas.{put_word, test_cond}
use Rattle.res_base.proofs.var_set.VarSet.put.Goals as goal

pub returns : goal.returns
unfolding in_set
returns c w =
    let ws = c.args.self.now.words in
    ap (λ (x : ℕ). eqb x 1) (put_word ws c.args.v w (omega arith) c.requires)
    ∙ test_cond (eqb w c.args.v) (bit_at (get_or ws (w / 64) 0) (w % 64))
