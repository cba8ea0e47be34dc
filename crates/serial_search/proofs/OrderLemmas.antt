-- The order in which a depth-first search closes boxes, and that no closed box was late.
use Rattle.std.proofs.Common.{◌≡◌, ℕ, ◌+◌, ◌*◌, ◌<◌, ◌≤◌, List, [], ◌∷◌, false, Option, Some, None, inl, inr, sym, subst, ap, ◌∙◌, arith}
use Rattle.std.specs.Option.{option_map_or}
use Rattle.res_base.specs.Lists.{Each, Member, Pairwise}
use Rattle.res_base.proofs.ListLemmas.{each_map, each_in}
use Rattle.choice_rank.specs.declared.variable.VarShape.{VarShape}
use Rattle.choice_rank.specs.Choices.{HasPositions, index_of}
use Rattle.box_split.specs.Boxes.{Run, IsBox, is_single, lows, highs, low_of}
use Rattle.box_split.specs.Paths.{lower, upper, box_of}
use Rattle.box_split.proofs.RunLemmas.{lt_tells}
use Rattle.box_split.proofs.PathLemmas.{path_box, lower_box, upper_box, lower_path, upper_path}
use Rattle.box_split.proofs.OrderLemmas.{apart, same_low, same_high, low_le_high}
use Rattle.search_api.specs.declared.outcome.Cause.{Cause}
use Rattle.search_api.specs.declared.outcome.Cause.TheVariants as cause
use Rattle.search_api.specs.declared.outcome.Closed.{Closed}
use Rattle.search_api.specs.Meaning.{Meaning}
use Rattle.search_api.specs.Accounts.{IsClosed, IsEntry, IsBest, IfLeaf, low_at, first_at}
use Rattle.serial_search.specs.Going.{cut_rank, last_at}

-- what the halves of a path keep of the order
pub record Ordered (vs : List VarShape) (p : ℕ) : Type 0 where
  pub first_low : first_at vs (2 * p) ≡ first_at vs p
  pub last_high : last_at vs (2 * p + 1) ≡ last_at vs p
  pub between : last_at vs (2 * p) < first_at vs (2 * p + 1)
  pub low_upright : first_at vs (2 * p) ≤ last_at vs (2 * p)
  pub high_upright : first_at vs (2 * p + 1) ≤ last_at vs (2 * p + 1)

pub ordered : (vs : List VarShape) (p : ℕ) (box : List Run) → box_of vs p ≡ Some box → IsBox vs box → is_single box ≡ false → Ordered vs p
ordered vs p box e b s =
    let el = lower_path vs p box e s in
    let eu = upper_path vs p box e s in
    let F : Option (List Run) → ℕ = λ o. option_map_or (λ x. index_of vs (lows x)) o 0 in
    let L : Option (List Run) → ℕ = λ o. option_map_or (λ x. index_of vs (highs x)) o 0 in
    let fl : first_at vs (2 * p) ≡ index_of vs (lows (lower box)) = ap F el in
    let ll : last_at vs (2 * p) ≡ index_of vs (highs (lower box)) = ap L el in
    let fu : first_at vs (2 * p + 1) ≡ index_of vs (lows (upper box)) = ap F eu in
    let lu : last_at vs (2 * p + 1) ≡ index_of vs (highs (upper box)) = ap L eu in
    let fp : first_at vs p ≡ index_of vs (lows box) = ap F e in
    let lp : last_at vs p ≡ index_of vs (highs box) = ap L e in
    record {
      first_low = fl ∙ ap (index_of vs) (same_low box) ∙ sym fp;
      last_high = lu ∙ ap (index_of vs) (same_high box) ∙ sym lp;
      between = omega (arith, ll, fu, apart vs box b s);
      low_upright = omega (arith, fl, ll, low_le_high vs (lower box) (lower_box vs box b));
      high_upright = omega (arith, fu, lu, low_le_high vs (upper box) (upper_box vs box b));
    }

-- the lowest corner of a path's box is not behind the highest
pub first_le_last : (vs : List VarShape) (p : ℕ) (box : List Run) → HasPositions vs → box_of vs p ≡ Some box → first_at vs p ≤ last_at vs p
first_le_last vs p box h e =
    let F : Option (List Run) → ℕ = λ o. option_map_or (λ x. index_of vs (lows x)) o 0 in
    let L : Option (List Run) → ℕ = λ o. option_map_or (λ x. index_of vs (highs x)) o 0 in
    let f : first_at vs p ≡ index_of vs (lows box) = ap F e in
    let l : last_at vs p ≡ index_of vs (highs box) = ap L e in
    omega (arith, f, l, low_le_high vs box (path_box vs p box h e))

-- what holds from each to each later one, where each has P
pub pairs_map : {X : Type 0} (P : X → Type 0) (R S : X → X → Type 0) (xs : List X) → ((x y : X) → P x → R x y → S x y) → Each P xs → Pairwise R xs → Pairwise S xs
pairs_map P R S [] f p h = tt
pairs_map P R S (x ∷ xs) f p h = (each_map (R x) (S x) xs (λ y r. f x y p.0 r) h.0, pairs_map P R S xs f p.1 h.1)

-- no box that is closed without a cut has a low above a leaf that stands before it
module _ (m : Meaning) where
  best_below : (best : Option ℕ) (kept : List ℕ) (low r : ℕ) → IsBest kept best → cut_rank best low ≡ None → Member r kept → low ≤ r
  best_below None kept low r b c i = absurd (subst (Member r) b i)
  best_below (Some k) kept low r b c i = elim (lt_tells k low) [
    | inl y ↦ let x : ◌≡◌ {A = Option ℕ} (Some k) None = rw y.0 at c in cc
    | inr n ↦ omega (arith, n.1, each_in (λ j. k ≤ j) r kept b.1 i)
  ]

  leaf_kept : (kept : List ℕ) (box : List Run) (c : Cause) (low : ℕ) → IsClosed m kept box c → ((r : ℕ) → Member r kept → low ≤ r) → IfLeaf c (λ r. low ≤ r)
  leaf_kept kept box (cause.Bad reason) low h f = tt
  leaf_kept kept box (cause.Cut rank) low h f = tt
  leaf_kept kept box (cause.Leaf rank) low h f = f rank h.2

  no_later : (best : Option ℕ) (kept : List ℕ) (closed : List Closed) (low : ℕ) → IsBest kept best → cut_rank best low ≡ None → Each (IsEntry m kept) closed → Each (λ (e : Closed). IfLeaf e.cause (λ r. low ≤ r)) closed
  no_later best kept closed low b c entries =
      each_map (IsEntry m kept) (λ (e : Closed). IfLeaf e.cause (λ r. low ≤ r)) closed (λ e h. leaf_kept kept h.box e.cause low h.closed (λ r i. best_below best kept low r b c i)) entries

  -- the same at the box of a path
  pub late_all : (best : Option ℕ) (kept : List ℕ) (closed : List Closed) (path : ℕ) (box : List Run) (low : ℕ) → IsBest kept best → Each (IsEntry m kept) closed → box_of m.shape path ≡ Some box → low ≡ low_of m.shape box → cut_rank best low ≡ None → Each (λ (e : Closed). IfLeaf e.cause (λ r. low_at m.shape path ≤ r)) closed
  late_all best kept closed path box low b entries e l c =
      let F : Option (List Run) → ℕ = λ o. option_map_or (λ (x : List Run). low_of m.shape x) o 0 in
      let same : low ≡ low_at m.shape path = l ∙ sym (ap F e) in
      subst (λ k. Each (λ (x : Closed). IfLeaf x.cause (λ r. k ≤ r)) closed) same (no_later best kept closed low b c entries)
