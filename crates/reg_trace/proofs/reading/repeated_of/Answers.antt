use Rattle.std.proofs.Common.{◌≡◌, ℕ, List, ◌∷◌, sym, ap, ◌∙◌}
use Rattle.text_lines.specs.Lines.{fields}
use Rattle.reg_trace.proofs.ReadLemmas.{form_many}
use Rattle.reg_trace.proofs.reading.repeated_of.Goals as goal

pub returns-in-Some : goal.returns-in-Some
returns-in-Some c =
    let first = c.first_field.result.0.now in
    let second = c.first_field-2.result.0.now in
    let one : fields c.args.line.now ≡ first ∷ fields c.in_ok-rest.field-0.now = rw c.in_ok-rest.was at c.first_field.ensures.field in
    let two : fields c.in_ok-rest.field-0.now ≡ second ∷ fields c.in-Some.field-0.now = rw c.in-Some.is at c.first_field-2.ensures.field in
    sym (form_many (fields c.args.line.now) first second c.in-Some.field-0.now (one ∙ ap (λ (fs : List (List ℕ)). first ∷ fs) two))
