-- The nodes that the code writes make the tree of the outcome.
use Rattle.std.proofs.Common.{◌≡◌, ℕ, zero, suc, ◌+◌, ◌*◌, ◌/◌, ◌^◌, ◌<◌, ◌≤◌, List, Bool, true, false, cond, Option, Some, None, ◌⊎◌, inl, inr, refl, sym, ap, subst, ◌∙◌, arith}
use Rattle.std.specs.Prelude.{not, is_some}
use Rattle.std.proofs.lemmas.Bool.Decides.{nat_tests}
use Rattle.std.proofs.lemmas.Nat.{div_below, pow_pos, pow_below}
use Rattle.choice_rank.specs.declared.variable.VarShape.{VarShape}
use Rattle.choice_rank.specs.Choices.{HasPositions}
use Rattle.box_split.specs.Boxes.{Run, is_single, low_of, lows}
use Rattle.box_split.specs.Paths.{box_of, lower, upper, split_from, covers}
use Rattle.box_split.proofs.RunLemmas.{positive}
use Rattle.box_split.proofs.PathLemmas.{path_box, lows_choice, single_none}
use Rattle.search_api.specs.declared.verdict.Reason.{Reason}
use Rattle.search_api.specs.declared.outcome.Cause.{Cause}
use Rattle.search_api.specs.declared.outcome.Cause.TheVariants as cause
use Rattle.search_api.specs.declared.outcome.Closed.{Closed}
use Rattle.res_base.specs.Lists.{Each, Member}
use Rattle.search_api.specs.Accounts.{IsBest}
use Rattle.res_base.proofs.ListLemmas.{each_in, some_part}
use Rattle.search_api.proofs.AnswerLemmas.{covered_held}
use Rattle.box_split.proofs.PathLemmas.{lower_path, upper_path}
use Rattle.refutation.specs.declared.node.Node.{Node}
use Rattle.refutation.specs.declared.node.Node.TheVariants as node
use Rattle.refutation.specs.Outcomes.{is_below, cause_at, FitsCause, FitsEntry, IsCovered}
use Rattle.refutation.specs.Trees.{Tree, BadLeaf, RankLeaf, WitnessLeaf, Fork}
use Rattle.refutation.specs.Canonical.{HasBelow, IsMade}
use Rattle.refutation.specs.Making.{node_from, node_for, node_of, IsBuilt}
use Rattle.refutation.proofs.CauseLemmas.{cause_in, cause_out}
use Rattle.box_split.proofs.PrefixLemmas.{half_again, half_first, lows_held, parent, prefix, comparable, same_box}
use Rattle.refutation.proofs.WayLemmas.{at_node}
use Rattle.search_api.proofs.PlaceLemmas.{split_open}

-- no proper prefix of the path was closed
abbrev pub NoneAbove : List Closed → ℕ → Type 0
NoneAbove closed p = (k : ℕ) → 0 < k → cause_at closed (p / 2 ^ k) ≡ None

pub none_half : (closed : List Closed) (p q : ℕ) → q / 2 ≡ p → cause_at closed p ≡ None → NoneAbove closed p → NoneAbove closed q
none_half closed p q e h above zero pos = absurd (omega arith)
none_half closed p q e h above (suc zero) pos = ap (cause_at closed) (omega arith) ∙ h
none_half closed p q e h above (suc (suc k)) pos = ap (cause_at closed) (half_first q (suc k) ∙ ap (λ n. n / 2 ^ suc k) e) ∙ above (suc k) (omega arith)

half_none : (k : ℕ) → 0 < k → 1 / 2 ^ k ≡ 0
half_none k h = omega (arith, div_below 1 (2 ^ k) 1 (pow_pos k) (omega (arith, pow_below 0 k h)))

module _ (vs : List VarShape) (best : Option ℕ) (kept : List ℕ) (closed : List Closed) (positions : HasPositions vs) (covered : IsCovered vs best kept closed) where
  none_zero : (xs : List Closed) → Each (FitsEntry vs kept) xs → (o : Option Cause) → cause_at xs 0 ≡ o → o ≡ None
  none_zero xs h None e = refl
  none_zero xs h (Some c) e =
      let i = cause_in xs 0 c e in
      let fits = each_in (FitsEntry vs kept) i.0 xs h i.1 in
      absurd (omega (arith, positive vs i.0.path fits.box fits.at, i.2))

  pub none_root : NoneAbove closed 1
  none_root k pos = ap (cause_at closed) (half_none k pos) ∙ none_zero closed covered.entries (cause_at closed 0) refl

  -- a path that is not closed, and lies below none that is, has a closed one below it
  pub has_below : (p : ℕ) (box : List Run) → box_of vs p ≡ Some box → NoneAbove closed p → cause_at closed p ≡ None → HasBelow closed p
  has_below p box e above here =
      let c = lows box in
      let is_box = path_box vs p box positions e in
      let held = lows_held vs box is_box in
      let part = some_part (λ (x : Closed). covers vs x.path c) closed (omega (arith, covered.cover c (lows_choice vs box is_box))) in
      let fits = each_in (FitsEntry vs kept) part.0 closed covered.entries part.1 in
      let held2 = covered_held vs c part.0.path fits.box fits.at part.2 in
      elim (comparable p vs c p part.0.path box fits.box (omega arith) e fits.at held held2) [
        | inl u ↦ under part.0 part.1 u.0 u.1
        | inr u ↦ over part.0 part.1 u.0 u.1
      ]
    where
      under : (x : Closed) → Member x closed → (k : ℕ) → x.path / 2 ^ k ≡ p → HasBelow closed p
      under x i zero u = let q : x.path ≡ p = omega arith in absurd (cause_out closed p x here i q)
      under x i (suc k) u = (x, suc k, i, omega arith, u)

      over : (x : Closed) → Member x closed → (k : ℕ) → p / 2 ^ k ≡ x.path → HasBelow closed p
      over x i zero u = let q : x.path ≡ p = omega arith in absurd (cause_out closed p x here i q)
      over x i (suc k) u = absurd (cause_out closed (p / 2 ^ suc k) x (above (suc k) (omega arith)) i (sym u))

  -- and so its box has two choices
  pub below_open : (p : ℕ) (box : List Run) → box_of vs p ≡ Some box → HasBelow closed p → is_single box ≡ false
  below_open p box e b = at b.0 b.1 b.2 b.3 b.4
    where
      at : (x : Closed) (k : ℕ) → Member x closed → 0 < k → x.path / 2 ^ k ≡ p → is_single box ≡ false
      at x zero i pos u = absurd (omega arith)
      at x (suc j) i pos u =
          let fits = each_in (FitsEntry vs kept) x closed covered.entries i in
          let h : (x.path / 2 ^ j) / 2 ≡ p = sym (half_again x.path j) ∙ u in
          let some = positive vs p box e in
          let up = prefix vs x.path j fits.box fits.at (omega arith) in
          let par = parent vs (x.path / 2 ^ j) up.higher (omega arith) up.at in
          let same = same_box par.above box (sym par.at ∙ (ap (box_of vs) h ∙ e)) in
          ap is_single (sym same) ∙ par.not_single

  -- a cut box is below the best rank
  cut_below : (b : Option ℕ) (rank low : ℕ) → IsBest kept b → Member rank kept → rank < low → is_below b low ≡ true
  cut_below None rank low h i l = absurd (subst (Member rank) h i)
  cut_below (Some r) rank low h i l = let m = each_in (λ k. r ≤ k) rank kept h.1 i in grind (arith, nat_tests)

  pub no_cut : (p rank : ℕ) (box : List Run) → box_of vs p ≡ Some box → is_below best (low_of vs box) ≡ false → cause_at closed p ≡ Some (cause.Cut rank) → ⊥
  no_cut p rank box e f h =
      let i = cause_in closed p (cause.Cut rank) h in
      let fits = each_in (FitsEntry vs kept) i.0 closed covered.entries i.1 in
      let same = same_box fits.box box (sym fits.at ∙ (ap (box_of vs) i.2 ∙ e)) in
      let c : FitsCause vs kept box (cause.Cut rank) = subst (λ b. FitsCause vs kept b (cause.Cut rank)) same (subst (FitsCause vs kept fits.box) i.3 fits.closed) in
      let t = cut_below best rank (low_of vs box) covered.best_is c.0 c.1 in
      let z : true ≡ false = sym t ∙ f in
      cc

  -- what is written at a path, in the words of the outcome
  pub Step : Node → ℕ → List Run → Type 0
  Step n p box =
      ((is_below best (low_of vs box) ≡ true) × (n ≡ node.Rank))
      ⊎ (((is_below best (low_of vs box) ≡ false) × ((reason : Reason) × (cause_at closed p ≡ Some (cause.Bad reason)) × (n ≡ node.Bad reason)))
      ⊎ (((is_below best (low_of vs box) ≡ false) × ((rank : ℕ) × (cause_at closed p ≡ Some (cause.Leaf rank)) × (n ≡ node.Witness)))
      ⊎ ((is_below best (low_of vs box) ≡ false) × (cause_at closed p ≡ None) × HasBelow closed p × ((s : ℕ × ℕ) × (split_from 0 box ≡ Some s) × (n ≡ node.Split s.0 s.1)))))

  step : (p : ℕ) (box : List Run) → box_of vs p ≡ Some box → NoneAbove closed p → Step (node_of vs best (cause_at closed p) box) p box
  unfolding Step
  step p box e above = by_below (is_below best (low_of vs box)) refl
    where
      by_split : (f : is_below best (low_of vs box) ≡ false) → (h : cause_at closed p ≡ None) → HasBelow closed p → (o : Option (ℕ × ℕ)) → split_from 0 box ≡ o → Step (node_from o) p box
      by_split f h b None s =
          let z : true ≡ false = sym (single_none 0 box ∙ ap (λ x. not (is_some x)) s) ∙ below_open p box e b in
          cc
      by_split f h b (Some x) s = inr (inr (inr (f, h, b, (x, s, refl))))

      by_cause : (f : is_below best (low_of vs box) ≡ false) → (o : Option Cause) → cause_at closed p ≡ o → Step (node_for o box) p box
      by_cause f None h = by_split f h (has_below p box e above h) (split_from 0 box) refl
      by_cause f (Some (cause.Bad reason)) h = inr (inl (f, (reason, h, refl)))
      by_cause f (Some (cause.Cut rank)) h = absurd (no_cut p rank box e f h)
      by_cause f (Some (cause.Leaf rank)) h = inr (inr (inl (f, (rank, h, refl))))

      by_below : (b : Bool) → is_below best (low_of vs box) ≡ b → Step (cond b node.Rank (node_for (cause_at closed p) box)) p box
      by_below true f = inl (f, refl)
      by_below false f = by_cause f (cause_at closed p) refl

  pub made : (tree : Tree) (p : ℕ) (box : List Run) → box_of vs p ≡ Some box → NoneAbove closed p → IsBuilt vs best closed tree p → IsMade vs best closed tree p box
  unfolding Step
  made (BadLeaf reason) p box e above b =
      let h = sym (at_node vs best closed p box e) ∙ b in
      elim (step p box e above) [
        | inl x ↦ let z : node.Rank ≡ node.Bad reason = sym x.1 ∙ h in cc
        | inr y ↦ elim y [
          | inl x ↦ let z : node.Bad x.1.0 ≡ node.Bad reason = sym x.1.2 ∙ h in let same : x.1.0 ≡ reason = cc in (x.0, x.1.1 ∙ ap (λ r. Some (cause.Bad r)) same)
          | inr y ↦ elim y [
            | inl x ↦ let z : node.Witness ≡ node.Bad reason = sym x.1.2 ∙ h in cc
            | inr x ↦ let z : node.Split x.3.0.0 x.3.0.1 ≡ node.Bad reason = sym x.3.2 ∙ h in cc
          ]
        ]
      ]
  made RankLeaf p box e above b =
      let h = sym (at_node vs best closed p box e) ∙ b in
      elim (step p box e above) [
        | inl x ↦ x.0
        | inr y ↦ elim y [
          | inl x ↦ let z : node.Bad x.1.0 ≡ node.Rank = sym x.1.2 ∙ h in cc
          | inr y ↦ elim y [
            | inl x ↦ let z : node.Witness ≡ node.Rank = sym x.1.2 ∙ h in cc
            | inr x ↦ let z : node.Split x.3.0.0 x.3.0.1 ≡ node.Rank = sym x.3.2 ∙ h in cc
          ]
        ]
      ]
  made WitnessLeaf p box e above b =
      let h = sym (at_node vs best closed p box e) ∙ b in
      elim (step p box e above) [
        | inl x ↦ let z : node.Rank ≡ node.Witness = sym x.1 ∙ h in cc
        | inr y ↦ elim y [
          | inl x ↦ let z : node.Bad x.1.0 ≡ node.Witness = sym x.1.2 ∙ h in cc
          | inr y ↦ elim y [
            | inl x ↦ (x.0, (x.1.0, x.1.1))
            | inr x ↦ let z : node.Split x.3.0.0 x.3.0.1 ≡ node.Witness = sym x.3.2 ∙ h in cc
          ]
        ]
      ]
  made (Fork v k l r) p box e above b =
      let h = sym (at_node vs best closed p box e) ∙ b.0 in
      elim (step p box e above) [
        | inl x ↦ let z : node.Rank ≡ node.Split v k = sym x.1 ∙ h in cc
        | inr y ↦ elim y [
          | inl x ↦ let z : node.Bad x.1.0 ≡ node.Split v k = sym x.1.2 ∙ h in cc
          | inr y ↦ elim y [
            | inl x ↦ let z : node.Witness ≡ node.Split v k = sym x.1.2 ∙ h in cc
            | inr x ↦
                let z : node.Split x.3.0.0 x.3.0.1 ≡ node.Split v k = sym x.3.2 ∙ h in
                let ev : x.3.0.0 ≡ v = cc in
                let ek : x.3.0.1 ≡ k = cc in
                let s : split_from 0 box ≡ Some (v, k) = x.3.1 ∙ (ap (λ a. Some (a, x.3.0.1)) ev ∙ ap (λ a. Some (v, a)) ek) in
                let open_box = split_open box v k s in (
                  x.0,
                  x.1,
                  x.2,
                  s,
                  made l (2 * p) (lower box) (lower_path vs p box e open_box) (none_half closed p (2 * p) (omega arith) x.1 above) b.1,
                  made r (2 * p + 1) (upper box) (upper_path vs p box e open_box) (none_half closed p (2 * p + 1) (omega arith) x.1 above) b.2,
                )
          ]
        ]
      ]
