use Rattle.std.proofs.Common.{ℕ, List, ◌++◌, take, sym, ap, ◌∙◌, append_assoc}
use Rattle.std.specs.List.{concat}
use Rattle.c_print.specs.Text.{part_text, frame}
use Rattle.c_print.proofs.WriteLemmas.{frame_more}
use Rattle.c_print.proofs.write.put_frame.Goals as goal

pub loop-place-preserved : goal.loop-place-preserved
loop-place-preserved c =
    let place = c.loop-place.place in
    let old = c.args.out.now.items in
    let over = c.args.over in
    let prefix = concat (take place (frame over)) in
    c.in_ok-put_part.ensures
    ∙ ap (λ (xs : List ℕ). xs ++ part_text c.frame_part.result) c.loop-place.invariant
    ∙ append_assoc old prefix (part_text c.frame_part.result)
    ∙ ap (λ (xs : List ℕ). old ++ (prefix ++ xs)) c.frame_part.ensures
    ∙ ap (λ (xs : List ℕ). old ++ xs) (sym (frame_more over place c.loop-place-test.true))
