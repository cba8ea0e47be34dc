-- One line more.
use Rattle.std.proofs.Common.{◌≡◌, ℕ, List, [], ◌∷◌, ◌++◌, sym, ap, ◌∙◌, append_assoc}
use Rattle.std.proofs.lemmas.List.{append-nil}
use Rattle.std.specs.Prelude.{map}
use Rattle.std.specs.List.{concat}
use Rattle.i2s_pll.specs.declared.op.I2sOp.{I2sOp}
use Rattle.i2s_pll.specs.Texts.{op_line}

pub op_more : (os : List I2sOp) (o : I2sOp) → concat (map op_line (os ++ o ∷ [])) ≡ concat (map op_line os) ++ op_line o
op_more [] o = append-nil (op_line o)
op_more (p ∷ os) o = ap (λ (xs : List ℕ). op_line p ++ xs) (op_more os o) ∙ sym (append_assoc (op_line p) (concat (map op_line os)) (op_line o))
