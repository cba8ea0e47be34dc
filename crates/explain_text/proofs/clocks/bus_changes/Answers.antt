use Rattle.std.proofs.Common.{refl}
use Rattle.explain_text.specs.Changes.{bus_changes}
use Rattle.explain_text.proofs.clocks.bus_changes.Goals as goal

pub returns : goal.returns
unfolding bus_changes
returns c =
    rw (
      c.in_ok-put_step.ensures,
      c.in_ok-put_change.ensures,
      c.in_ok-out.ensures,
      c.home_value.ensures,
      c.home_value-2.ensures,
      c.home_value-3.ensures,
      c.from.ensures,
      c.from-2.ensures,
      c.from-3.ensures,
    )
    refl
