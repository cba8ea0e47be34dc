-- The signals without a home are the needs.
use Rattle.std.proofs.Common.{◌≡◌, ℕ, ◌<◌, List, [], ◌∷◌, length, Bool, true, false, Option, Some, None, refl}
use Rattle.std.specs.Prelude.{IsSomeAnd}
use Rattle.res_base.specs.Lists.{Each}
use Rattle.res_model.specs.Placed.{IsPlaced}
use Rattle.res_model.specs.declared.project.Signal.{Signal}
use Rattle.res_model.specs.declared.table.TableParts.{TableParts}
use Rattle.ioc_project.specs.Laws.{IsNeedOrAtHome, NeedsHaveNoHome}
use Rattle.ioc_project.proofs.ProjectLaws.{read_keeps}

no_home : (need : Bool) (home : Option ℕ) (pins : ℕ) → (need ≡ false → IsSomeAnd home (λ h. h < pins)) → home ≡ None → need ≡ true
no_home true home pins at_home e = refl
no_home false None pins at_home e = absurd (at_home refl)
no_home false (Some h) pins at_home e = absurd cc

each_is : (t : TableParts) (signals : List Signal) → Each (IsPlaced t) signals → Each IsNeedOrAtHome signals
each_is t [] h = tt
each_is t (s ∷ ss) h = ((λ n. (h.0.needed n).0, λ e. no_home s.need s.home (length t.pins) h.0.at_home e), each_is t ss h.1)

pub needs_have_no_home : NeedsHaveNoHome
needs_have_no_home t ioc opts clocks p e = each_is t p.signals (read_keeps t ioc opts clocks p e).placed
