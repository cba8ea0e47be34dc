-- In which order a worker comes to its boxes.
use Rattle.std.specs.Prelude.{◌≡◌, ℕ, List, [], ◌∷◌, ◌++◌, Some, slice_get}
use Rattle.std.specs.Option.{option_to_list}
use Rattle.res_base.specs.Lists.{Each, Pairwise}
use Rattle.choice_rank.specs.declared.variable.VarShape.{VarShape}
use Rattle.search_api.specs.Meaning.{Meaning}
use Rattle.serial_search.specs.Going.{IsBefore}
use Rattle.search_core.specs.declared.event.Event.{Event}
use Rattle.search_core.specs.declared.event.Event.TheVariants as event
use Rattle.search_core.specs.declared.state.Hand.{Hand}
use Rattle.search_core.specs.declared.state.Core.{Core}
use Rattle.search_core.specs.Runs.{Goes}

-- a worker steals only when its own deque is empty
abbrev pub OwnFirst : Core → Event → Type 0
OwnFirst c (event.Pop w) = Unit {0}
OwnFirst c (event.Steal w from) = slice_get c.deques w ≡ Some []
OwnFirst c (event.Split w) = Unit {0}
OwnFirst c (event.CloseBad w) = Unit {0}
OwnFirst c (event.Cut w) = Unit {0}
OwnFirst c (event.Keep w) = Unit {0}
OwnFirst c (event.Offer w) = Unit {0}
OwnFirst c (event.See w) = Unit {0}

-- a list of events makes the one core the other, and no worker steals while its own deque has a path
abbrev pub RunsOwnFirst : Meaning → Core → List Event → Core → Type 0
RunsOwnFirst m c [] end = end ≡ c
RunsOwnFirst m c (e ∷ es) end = (next : Core) × Goes m c e next × OwnFirst c e × RunsOwnFirst m next es end

-- the open paths of a worker: its deque from the front, and behind it the path in its hand
abbrev pub own_paths : List ℕ → Hand → List ℕ
own_paths deque hand = deque ++ option_to_list hand.path

-- all of the box of each path stands behind all of the boxes of those after it: the last is the first to come
abbrev pub LowestLast : List VarShape → List ℕ → Type 0
LowestLast vars paths = Pairwise (λ p q. IsBefore vars q p) paths

-- all of the box of the path stands behind all of the boxes of these
abbrev pub IsBehind : List VarShape → ℕ → List ℕ → Type 0
IsBehind vars path others = Each (λ q. IsBefore vars q path) others
