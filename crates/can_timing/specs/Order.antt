-- Timings in the order of their ranks.
use Rattle.std.specs.Prelude.{◌≡◌, ◌<◌, ◌⊎◌}
use Rattle.can_timing.specs.declared.timing.Timing.{Timing}

-- the lesser prescaler comes first, then the shorter first segment, and then the shorter second one
abbrev pub ComesBefore : Timing → Timing → Type 0
ComesBefore t u = (t.brp < u.brp) ⊎ ((t.brp ≡ u.brp) × ((t.bs1 < u.bs1) ⊎ ((t.bs1 ≡ u.bs1) × (t.bs2 < u.bs2))))
