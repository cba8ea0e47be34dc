use Rattle.std.proofs.Common.{◌∙◌, ℕ, [], ap, map}
use Rattle.std.specs.Borrow.{Bor}
use Rattle.ioc_text.specs.declared.line.Line.{Line}
use Rattle.ioc_project.specs.Project.{numbered, pin_lines}
use Rattle.ioc_project.proofs.PinOrder.{lines_seen}
use Rattle.ioc_project.proofs.pins.pin_lines.Goals as goal

pub returns : goal.returns
unfolding pin_lines
returns c =
    ap (λ ls. map (λ (l : Bor Line). l.now) ls) c.in_ok-pins.ensures ∙ lines_seen c.in_ok-placed.placed.entries
    ∙ ap (λ es. map (λ (e : ℕ × Line). e.1) es)
    (c.in_ok-placed.ensures ∙ ap (λ ls. numbered [] (map (λ (l : Bor Line). l.now) ls)) c.as_slice.ensures.value ∙ ap (numbered []) c.in_ok-lines.ensures)
