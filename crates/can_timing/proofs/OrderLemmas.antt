-- Ranks of timings, and their order.
use Rattle.std.proofs.Common.{◌≡◌, ℕ, ◌+◌, ◌*◌, ◌<◌, List, [], ◌∷◌, inl, inr, arith}
use Rattle.std.proofs.lemmas.Bool.{cases_lt}
use Rattle.choice_rank.specs.Choices.{IsChoice, rank_of}
use Rattle.can_timing.specs.declared.timing.Timing.{Timing}
use Rattle.can_timing.specs.Timings.{IsTiming, can_shape, timing_of}
use Rattle.can_timing.specs.Order.{ComesBefore}
use Rattle.can_timing.proofs.TimingLemmas.{in_ranges}

-- the rank in the numbers of the timing
weight : Timing → ℕ
weight t = t.brp * 128 + t.bs1 * 8 + t.bs2

rank_weight : (at : List ℕ) → IsChoice can_shape at → rank_of can_shape at + 137 ≡ weight (timing_of at)
unfolding weight
rank_weight [] i = absurd i
rank_weight (x ∷ []) i = absurd i.1
rank_weight (x ∷ y ∷ []) i = absurd i.1.1
rank_weight (x ∷ y ∷ z ∷ []) i = absurd i.1.1.1
rank_weight (x ∷ y ∷ z ∷ k ∷ j ∷ rest) i = absurd i.1.1.1.1
rank_weight (x ∷ y ∷ z ∷ k ∷ []) i = omega arith

before : (t u : Timing) → IsTiming t → IsTiming u → weight t < weight u → ComesBefore t u
unfolding weight
before t u r s l = elim (cases_lt t.brp u.brp) [
  | inl y ↦ inl (omega (arith, y))
  | inr n ↦
      let p : t.brp ≡ u.brp = omega (arith, n, l, r.bs1.0, r.bs1.1, r.bs2.0, r.bs2.1, s.bs1.0, s.bs1.1, s.bs2.0, s.bs2.1) in
      elim (cases_lt t.bs1 u.bs1) [
        | inl y ↦ inr (p, inl (omega (arith, y)))
        | inr m ↦
            let a : t.bs1 ≡ u.bs1 = omega (arith, p, m, l, r.bs2.0, r.bs2.1, s.bs2.0, s.bs2.1) in
            inr (p, inr (a, omega (arith, p, a, l)))
      ]
]

lighter : (t u : Timing) → IsTiming t → IsTiming u → ComesBefore t u → weight t < weight u
unfolding weight
lighter t u r s c = elim c [
  | inl y ↦ omega (arith, y, r.bs1.0, r.bs1.1, r.bs2.0, r.bs2.1, s.bs1.0, s.bs1.1, s.bs2.0, s.bs2.1)
  | inr w ↦ elim w.1 [
    | inl y ↦ omega (arith, w.0, y, r.bs2.0, r.bs2.1, s.bs2.0, s.bs2.1)
    | inr v ↦ omega (arith, w.0, v.0, v.1)
  ]
]

module _ (choice other : List ℕ) (i : IsChoice can_shape choice) (j : IsChoice can_shape other) where
  pub comes_first : rank_of can_shape choice < rank_of can_shape other → ComesBefore (timing_of choice) (timing_of other)
  comes_first l = before (timing_of choice) (timing_of other) (in_ranges choice i) (in_ranges other j) (omega (arith, l, rank_weight choice i, rank_weight other j))

  pub is_lower : ComesBefore (timing_of choice) (timing_of other) → rank_of can_shape choice < rank_of can_shape other
  is_lower c =
      let l = lighter (timing_of choice) (timing_of other) (in_ranges choice i) (in_ranges other j) c in
      omega (arith, l, rank_weight choice i, rank_weight other j)
