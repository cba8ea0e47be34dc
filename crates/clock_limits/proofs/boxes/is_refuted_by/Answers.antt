use Rattle.std.proofs.Common.{subst, sym}
use Rattle.clock_limits.specs.Ranges.{Allowed}
use Rattle.clock_limits.specs.Fair.{IsFair}
use Rattle.clock_limits.proofs.FairLemmas.{box_is_fair}
use Rattle.clock_limits.proofs.boxes.is_refuted_by.Goals as goal

pub room_in-requires-clause-fair : goal.room_in-requires-clause-fair
room_in-requires-clause-fair c =
    subst (λ (a : Allowed). IsFair a) (sym c.of.ensures) (box_is_fair c.args.values.now c.args.b.now c.requires.is_box c.requires.in_range)
