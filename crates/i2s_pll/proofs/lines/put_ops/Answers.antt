use Rattle.std.proofs.Common.{◌≡◌, ℕ, ◌+◌, List, [], ◌∷◌, ◌++◌, take, get_or, sym, ap, ◌∙◌, append_assoc}
use Rattle.std.specs.Prelude.{map}
use Rattle.std.specs.List.{concat}
use Rattle.std.proofs.lemmas.List.{take_more}
use Rattle.i2s_pll.specs.declared.op.I2sOp.{I2sOp}
use Rattle.i2s_pll.specs.declared.op.I2sOp.TheVariants as op
use Rattle.i2s_pll.specs.Texts.{op_line}
use Rattle.i2s_pll.proofs.LineLemmas.{op_more}
use Rattle.i2s_pll.proofs.lines.put_ops.Goals as goal

pub loop-op-preserved : goal.loop-op-preserved
loop-op-preserved c =
    let ops = c.args.ops.now in
    let i = c.loop-op.op-index in
    let o = get_or ops i (op.Config 0) in
    let more : take (i + 1) ops ≡ take i ops ++ o ∷ [] = take_more ops i (op.Config 0) c.loop-op-test.true in
    let old = c.args.out.now.items in
    let before = concat (map op_line (take i ops)) in
    c.in_ok-put_op.ensures
    ∙ ap (λ (xs : List ℕ). xs ++ op_line o) c.loop-op.invariant
    ∙ append_assoc old before (op_line o)
    ∙ ap (λ (xs : List ℕ). old ++ xs) (sym (op_more (take i ops) o) ∙ ap (λ (os : List I2sOp). concat (map op_line os)) (sym more))
