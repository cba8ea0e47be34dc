-- Internal: what a worker keeps true of the boxes that it closed and of the places that it holds.
use Rattle.std.specs.Prelude.{◌≡◌, ℕ, ◌+◌, ◌*◌, ◌≤◌, ◌^◌, List, [], ◌∷◌, ◌++◌, length, Bool, true, false, None}
use Rattle.res_base.specs.Lists.{Each, Member, Pairwise}
use Rattle.choice_rank.specs.declared.variable.VarShape.{VarShape}
use Rattle.box_split.specs.Paths.{box_of}
use Rattle.best_word.specs.declared.part.Part.TheVariants.{Other}
use Rattle.best_word.specs.declared.word.View.{View}
use Rattle.search_api.specs.declared.outcome.Cause.{Cause}
use Rattle.search_api.specs.declared.outcome.Cause.TheVariants as cause
use Rattle.search_api.specs.declared.outcome.Closed.{Closed}
use Rattle.search_api.specs.declared.place.Place.{Place}
use Rattle.search_api.specs.Meaning.{Meaning}
use Rattle.search_api.specs.Accounts.{IsEntry, IsLegalRank, IsInTime}
use Rattle.search_api.specs.Places.{IsAt}
use Rattle.steal_worker.specs.declared.held.Held.{Held}

-- the place in hand, where there is one
abbrev pub in_hand : Bool → Place → List Place
in_hand false place = []
in_hand true place = place ∷ []

-- the place in hand is that of a path; there is none where the number is no path
abbrev pub IsFound : List VarShape → ℕ → Bool → Place → Type 0
IsFound vars path false place = box_of vars path ≡ None
IsFound vars path true place = (place.path ≡ path) × IsAt vars place

-- the places of a private end, the last one next
abbrev pub held_places : Held → List Place
held_places h = h.places.items

abbrev pub leaf_rank : Cause → List ℕ
leaf_rank (cause.Bad reason) = []
leaf_rank (cause.Cut rank) = []
leaf_rank (cause.Leaf rank) = rank ∷ []

-- the ranks of the leaves, in order
abbrev pub leaf_ranks : List Closed → List ℕ
leaf_ranks [] = []
leaf_ranks (e ∷ es) = leaf_rank e.cause ++ leaf_ranks es

-- a fact of the rank of a cut
abbrev pub IfCut : Cause → (ℕ → Type 0) → Type 0
IfCut (cause.Bad reason) P = Unit {0}
IfCut (cause.Cut rank) P = P rank
IfCut (cause.Leaf rank) P = Unit {0}

-- the low is no more than any of the ranks
abbrev pub IsAtMost : ℕ → List ℕ → Type 0
IsAtMost low ranks = (rank : ℕ) → Member rank ranks → low ≤ rank

-- the place at each place of the list, counted from k, has a path of more bits than that
abbrev pub Deep : ℕ → List Place → Type 0
Deep k [] = Unit {0}
Deep k (p ∷ ps) = (2 ^ (k + 1) ≤ p.path) × Deep (k + 1) ps

module _ {J : Type 0} where
  -- the ranks that a seat kept or saw
  abbrev pub known : View J → List ℕ
  known v = v.kept ++ v.saw

  -- one load was made, and nothing was kept
  pub record IsLooked (v w : View J) : Type 0 where
    pub part : w.part ≡ v.part
    pub kept : w.kept ≡ v.kept
    pub saw : (rank : ℕ) → Member rank v.saw → Member rank w.saw
    pub loads : length w.saw + w.blank ≡ length v.saw + v.blank + 1

  -- the closed boxes are accounted for by what a seat kept and saw
  pub record AreClosed (m : Meaning) (v : View J) (closed : List Closed) : Type 0 where
    pub entries : Each (IsEntry m (known v)) closed
    pub ranks : v.kept ≡ leaf_ranks closed
    pub legal : Each (IsLegalRank m) v.kept
    pub in_time : Pairwise (IsInTime m.shape) closed
    pub cuts : Each (λ (e : Closed). IfCut e.cause (λ rank. Member rank v.saw)) closed
    pub loads : length closed ≤ length v.saw + v.blank

  -- what the worker of a number keeps, with these places in hand and in its private end
  pub record Walks (m : Meaning) (number : ℕ) (hand : List Place) (v : View J) (held : List Place) (closed : List Closed) : Type 0 where
    pub boxes : AreClosed m v closed
    pub named : Each (λ (e : Closed). e.worker ≡ number) closed
    pub part : v.part ≡ Other
    pub places : Each (IsAt m.shape) held
    pub deep : Deep 0 held
    pub hands : Each (λ (p : Place). IsAt m.shape p × (2 ^ (length held) ≤ p.path)) hand

-- the place of the upper half of a place's box joins the private end
pub record TookUpper (vars : List VarShape) (place : Place) (old new : List Place) : Type 0 where
  pub upper : Place
  pub pushed : new ≡ old ++ upper ∷ []
  pub upper_path : upper.path ≡ 2 * place.path + 1
  pub upper_at : IsAt vars upper

-- the halves of a place's box: the upper one joins the private end, the lower one is next
pub record Halved (vars : List VarShape) (place lower : Place) (old new : List Place) : Type 0 where
  pub upper : Place
  pub pushed : new ≡ old ++ upper ∷ []
  pub upper_path : upper.path ≡ 2 * place.path + 1
  pub lower_path : lower.path ≡ 2 * place.path
  pub upper_at : IsAt vars upper
  pub lower_at : IsAt vars lower
