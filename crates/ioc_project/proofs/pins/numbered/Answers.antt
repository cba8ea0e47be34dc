use Rattle.std.proofs.Common.{◌∙◌, ℕ, List, refl, sym, ap}
use Rattle.ioc_text.specs.Lines.{pin_number}
use Rattle.ioc_project.proofs.PinOrder.{put, passed}
use Rattle.ioc_project.proofs.pins.numbered.Goals as goal
use Rattle.ioc_project.proofs.pins.numbered.Goals.{in-Some+in_ok-insert, in_default}

pub loop-line-preserved : goal.loop-line-preserved
loop-line-preserved c = elim c.match-pin_number.branch [
  | in-Some+in_ok-insert w ↦
      put c.loop-line.placed.entries c.match-pin_number.placed.entries c.args.lines.now c.loop-line.line-index c.line-item.result c.loop-line-test.true c.line-item.is w.in-Some.k
      (ap (λ (k : List ℕ). pin_number k) (sym c.as_slice.ensures) ∙ sym c.pin_number.ensures ∙ w.in-Some.is) (ap (λ m. m.entries) w.placed-is ∙ w.in_ok-insert.ensures.entries) ∙ c.loop-line.invariant
  | in_default w ↦
      passed c.loop-line.placed.entries c.match-pin_number.placed.entries c.args.lines.now c.loop-line.line-index c.line-item.result c.loop-line-test.true c.line-item.is
      (ap (λ (k : List ℕ). pin_number k) (sym c.as_slice.ensures) ∙ sym c.pin_number.ensures ∙ w.in_default.is) (ap (λ m. m.entries) w.placed-is) ∙ c.loop-line.invariant
]
