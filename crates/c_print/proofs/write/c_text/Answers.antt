use Rattle.std.proofs.Common.{◌≡◌, ℕ, List, ◌++◌, ap, ◌∙◌}
use Rattle.std.specs.Prelude.{map}
use Rattle.std.specs.List.{concat}
use Rattle.c_print.specs.declared.part.Part.TheVariants as part
use Rattle.c_print.specs.Text.{part_text, op_line, awaits_over, frame}
use Rattle.c_print.proofs.WriteLemmas.{in_order}
use Rattle.c_print.proofs.write.c_text.Goals as goal

pub returns : goal.returns
returns c =
    let body = concat (map op_line c.args.ops.now) in
    let prefix = concat (frame (awaits_over c.args.ops.now)) in
    let a : c.put_frame.new.out.items ≡ prefix = c.in_ok-put_frame.ensures ∙ ap (λ (xs : List ℕ). xs ++ concat (frame c.awaits_over.result)) c.new-out.ensures.items ∙ ap (λ o. concat (frame o)) c.awaits_over.ensures in
    let b : c.put_ops.new.out.items ≡ prefix ++ body = c.in_ok-put_ops.ensures ∙ ap (λ (xs : List ℕ). xs ++ body) a in
    let d : c.put_part.new.out.items ≡ (prefix ++ body) ++ part_text part.Return = c.in_ok-put_part.ensures ∙ ap (λ (xs : List ℕ). xs ++ part_text part.Return) b in
    c.in_ok-put_part-2.ensures ∙ ap (λ (xs : List ℕ). xs ++ part_text part.Close) d ∙ in_order c.args.ops.now
