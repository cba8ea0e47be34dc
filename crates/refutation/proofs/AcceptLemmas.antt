-- The tree of an accounted outcome is accepted.
use Rattle.std.proofs.Common.{◌≡◌, ℕ, suc, ◌+◌, ◌*◌, ◌≤◌, List, [], ◌∷◌, Bool, true, false, Option, Some, None, ◌⊎◌, inl, inr, refl, sym, ap, subst, ◌∙◌, arith}
use Rattle.std.specs.Option.{option_map_or}
use Rattle.std.proofs.lemmas.Bool.Decides.{nat_tests}
use Rattle.choice_rank.specs.Choices.{HasPositions, rank_of}
use Rattle.box_split.specs.Boxes.{Run, whole, is_single, low_of, lows, holds}
use Rattle.box_split.specs.Paths.{box_of, lower, upper, split_from, cut_of}
use Rattle.res_base.specs.Sums.{one_if}
use Rattle.box_split.proofs.RunLemmas.{lt_tells, cut_inside, halved, low_rank, box_root}
use Rattle.box_split.proofs.PathLemmas.{path_box, lows_choice}
use Rattle.choice_rank.proofs.ChoiceLemmas.{rank_same}
use Rattle.search_api.specs.declared.outcome.Cause.TheVariants as cause
use Rattle.search_api.specs.declared.outcome.Closed.{Closed}
use Rattle.res_base.specs.Lists.{Member}
use Rattle.search_api.specs.Accounts.{IsBest}
use Rattle.res_base.proofs.ListLemmas.{each_in}
use Rattle.box_split.proofs.PathLemmas.{lower_path, upper_path}
use Rattle.box_split.proofs.LawLemmas.{holds_in, whole_lies, lies}
use Rattle.refutation.specs.declared.node.Node.{Node}
use Rattle.search_api.specs.Meaning.{Meaning, IsLawful}
use Rattle.search_api.specs.Accounts.{IsLegalRank}
use Rattle.refutation.specs.Outcomes.{is_below, cause_at, FitsCause, FitsEntry, IsCovered, IsRefuted, IsSound}
use Rattle.refutation.specs.Trees.{Tree, BadLeaf, RankLeaf, WitnessLeaf, Fork, nodes_of, CanSplit, low_part, high_part, IsWitness, Accepts, HasWitness, NeedsWitness, IsAccepted}
use Rattle.refutation.specs.Canonical.{IsMade}
use Rattle.refutation.proofs.CauseLemmas.{cause_in}
use Rattle.box_split.proofs.PrefixLemmas.{same_box}
use Rattle.search_api.proofs.PlaceLemmas.{split_open}

-- the split of a box leaves its two halves
pub record Parts (box : List Run) (i k : ℕ) : Type 0 where
  pub can : CanSplit i k box
  pub low_is : low_part i k box ≡ lower box
  pub high_is : high_part i k box ≡ upper box

parts_from : (box : List Run) (j v k : ℕ) → split_from j box ≡ Some (v, k) → (i : ℕ) × (v ≡ j + i) × Parts box i k
parts_from [] j v k e = cc
parts_from (r ∷ rs) j v k e = elim (lt_tells r.low r.high) [
  | inl y ↦
      let is : ◌≡◌ {A = Option (ℕ × ℕ)} (Some (j, cut_of r)) (Some (v, k)) = rw y.0 at e in
      let jv : j ≡ v = ap (λ (o : Option (ℕ × ℕ)). option_map_or (λ (p : ℕ × ℕ). p.0) o 0) is in
      let ck : cut_of r ≡ k = ap (λ (o : Option (ℕ × ℕ)). option_map_or (λ (p : ℕ × ℕ). p.1) o 0) is in
      let c = cut_inside r y.1 in
      (0, omega arith, record { can = (omega (arith, c.0), omega (arith, c.1)); low_is = rw (y.0, ck) refl; high_is = rw (y.0, ck) refl })
  | inr z ↦
      let rest : split_from (j + 1) rs ≡ Some (v, k) = rw z.0 at e in
      let f = parts_from rs (j + 1) v k rest in
      (suc f.0, omega (arith, f.1), record { can = f.2.can; low_is = rw z.0 (ap (λ xs. r ∷ xs) f.2.low_is); high_is = rw z.0 (ap (λ xs. r ∷ xs) f.2.high_is) })
]

pub parts : (box : List Run) (v k : ℕ) → split_from 0 box ≡ Some (v, k) → Parts box v k
parts box v k e =
    let f = parts_from box 0 v k e in
    let same : f.0 ≡ v = omega (arith, f.1) in
    subst (λ i. Parts box i k) same f.2

pub in_half : (box : List Run) (c : List ℕ) → is_single box ≡ false → holds box c ≡ true → (holds (lower box) c ≡ true) ⊎ (holds (upper box) c ≡ true)
in_half box c s h = sums (holds (lower box) c) (holds (upper box) c) (halved box c s ∙ ap one_if h)
  where
    sums : (a b : Bool) → one_if a + one_if b ≡ 1 → (a ≡ true) ⊎ (b ≡ true)
    sums true b e = inl refl
    sums false true e = inr refl
    sums false false e = absurd (omega arith)

module _ (j : Meaning) (judge : IsLawful j) (best : Option ℕ) (kept : List ℕ) (closed : List Closed) (positions : HasPositions j.shape) (covered : IsCovered j.shape best kept closed) (sound : IsSound j kept closed) where
  best_low : (b : Option ℕ) (rank low : ℕ) → IsBest kept b → Member rank kept → low ≡ rank → is_below b low ≡ false → b ≡ Some low
  best_low None rank low h i e f = absurd (subst (Member rank) h i)
  best_low (Some r) rank low h i e f =
      let m = each_in (λ k. r ≤ k) rank kept h.1 i in
      let le : low ≤ r = grind (arith, nat_tests) in
      ap (λ n. Some n) (omega arith)

  pub witness_at : (p rank : ℕ) (box : List Run) → box_of j.shape p ≡ Some box → is_below best (low_of j.shape box) ≡ false → cause_at closed p ≡ Some (cause.Leaf rank) → IsWitness j best box
  witness_at p rank box e f h =
      let i = cause_in closed p (cause.Leaf rank) h in
      let fits = each_in (FitsEntry j.shape kept) i.0 closed covered.entries i.1 in
      let same = same_box fits.box box (sym fits.at ∙ (ap (box_of j.shape) i.2 ∙ e)) in
      let c : FitsCause j.shape kept box (cause.Leaf rank) = subst (λ b. FitsCause j.shape kept b (cause.Leaf rank)) same (subst (FitsCause j.shape kept fits.box) i.3 fits.closed) in
      let own = each_in (IsLegalRank j) rank kept sound.legal c.2 in
      let lows_is = rank_same j.shape own.choice (lows box) own.is_choice (lows_choice j.shape box (path_box j.shape p box positions e)) (own.rank_is ∙ sym c.1) in
      let b = best_low best rank (low_of j.shape box) covered.best_is c.2 c.1 f in
      subst (λ o. IsWitness j o box) (sym b) (c.0, ap j.legal (sym lows_is) ∙ own.is_legal, refl)

  pub refuted_at : (p : ℕ) (box : List Run) (reason : _) → box_of j.shape p ≡ Some box → cause_at closed p ≡ Some (cause.Bad reason) → j.refutes reason box ≡ true
  refuted_at p box reason e h =
      let i = cause_in closed p (cause.Bad reason) h in
      each_in (IsRefuted j) i.0 closed sound.refuted i.1 reason box i.3 (ap (box_of j.shape) i.2 ∙ e)

  pub accepts : (tree : Tree) (p : ℕ) (box : List Run) → box_of j.shape p ≡ Some box → IsMade j.shape best closed tree p box → Accepts j best tree box
  accepts (BadLeaf reason) p box e m = refuted_at p box reason e m.1
  accepts RankLeaf p box e m = m
  accepts WitnessLeaf p box e m = witness_at p m.1.0 box e m.0 m.1.1
  accepts (Fork v k l r) p box e m =
      let s = split_open box v k m.3 in
      let d = parts box v k m.3 in (
        d.can,
        subst (Accepts j best l) (sym d.low_is) (accepts l (2 * p) (lower box) (lower_path j.shape p box e s) m.4),
        subst (Accepts j best r) (sym d.high_is) (accepts r (2 * p + 1) (upper box) (upper_path j.shape p box e s) m.5),
      )

  below_not : (b rank low : ℕ) → is_below (Some b) low ≡ true → low ≤ rank → rank ≡ b → ⊥
  below_not b rank low h l e = grind (arith, nat_tests)

  witness : (b : ℕ) → best ≡ Some b → (own : IsLegalRank j b) → (tree : Tree) (p : ℕ) (box : List Run) → box_of j.shape p ≡ Some box → IsMade j.shape best closed tree p box → holds box own.choice ≡ true → HasWitness tree
  witness b is own (BadLeaf reason) p box e m h = judge.none_legal reason box (path_box j.shape p box positions e) (refuted_at p box reason e m.1) own.choice own.is_choice (lies box own.choice h) own.is_legal
  witness b is own RankLeaf p box e m h = below_not b (rank_of j.shape own.choice) (low_of j.shape box) (ap (λ o. is_below o (low_of j.shape box)) (sym is) ∙ m) (low_rank j.shape box own.choice h) own.rank_is
  witness b is own WitnessLeaf p box e m h = tt
  witness b is own (Fork v k l r) p box e m h =
      let s = split_open box v k m.3 in
      elim (in_half box own.choice s h) [
        | inl y ↦ inl (witness b is own l (2 * p) (lower box) (lower_path j.shape p box e s) m.4 y)
        | inr y ↦ inr (witness b is own r (2 * p + 1) (upper box) (upper_path j.shape p box e s) m.5 y)
      ]

  needs : (o : Option ℕ) → best ≡ o → IsBest kept o → (tree : Tree) → IsMade j.shape best closed tree 1 (whole j.shape) → NeedsWitness o tree
  needs None is h tree m = tt
  needs (Some b) is h tree m =
      let own = each_in (IsLegalRank j) b kept sound.legal h.0 in
      witness b is own tree 1 (whole j.shape) (box_root j.shape) m (holds_in (whole j.shape) own.choice (whole_lies j.shape own.choice own.is_choice))

  pub accepted : (nodes : List Node) (tree : Tree) → nodes_of tree ≡ nodes → IsMade j.shape best closed tree 1 (whole j.shape) → IsAccepted j best nodes
  accepted nodes tree e m = record { tree = tree; nodes_are = e; accepts = accepts tree 1 (whole j.shape) (box_root j.shape) m; witness = needs best refl covered.best_is tree m }
