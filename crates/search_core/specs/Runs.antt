-- Lists of events, and the core that has nothing left to do.
use Rattle.std.specs.Prelude.{◌≡◌, ◌⊎◌, ℕ, List, [], ◌∷◌, ◌++◌, Option}
use Rattle.res_base.specs.Lists.{Each, Member}
use Rattle.search_api.specs.declared.outcome.Cause.TheVariants as cause
use Rattle.search_api.specs.declared.outcome.Closed.{Closed}
use Rattle.search_api.specs.Meaning.{Meaning}
use Rattle.search_api.specs.Accounts.{CoverOnce, IsBest, IsEntry, IsLegalRank, OpenAbove}
use Rattle.search_core.specs.declared.event.Event.{Event}
use Rattle.search_core.specs.declared.state.Core.{Core}
use Rattle.search_core.specs.Events.{IsIdle, Step}

-- an event makes its step, or leaves the core: where it is not possible, or where memory ran out
abbrev pub Goes : Meaning → Core → Event → Core → Type 0
Goes m c e new = Step m c e new ⊎ (new ≡ c)

-- a list of events makes the one core the other
abbrev pub Runs : Meaning → Core → List Event → Core → Type 0
Runs m c [] end = end ≡ c
Runs m c (e ∷ es) end = (next : Core) × Goes m c e next × Runs m next es end

-- no deque and no hand has a path, and no hand owes
pub record IsFinished (c : Core) : Type 0 where
  pub deques : Each (λ (d : List ℕ). d ≡ []) c.deques
  pub hands : Each IsIdle c.hands

-- an outcome that is accounted for, whatever the order in which its boxes were closed
pub record IsAccount (m : Meaning) (best : Option ℕ) (kept : List ℕ) (closed : List Closed) : Type 0 where
  pub cover : CoverOnce m.shape closed
  pub entries : Each (IsEntry m kept) closed
  pub legal : Each (IsLegalRank m) kept
  pub best_is : IsBest kept best
  pub open_above : Each (λ (e : Closed). OpenAbove m e.path) closed

-- worker w closes a path by a rank that stood in `kept` before
pub record CutsByKept (c : Core) (w : ℕ) (new : Core) : Type 0 where
  pub path : ℕ
  pub rank : ℕ
  pub was_kept : Member rank c.kept
  pub closed : new.closed ≡ c.closed ++ record { worker = w; path = path; cause = cause.Cut rank } ∷ []
