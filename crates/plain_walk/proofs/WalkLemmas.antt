-- One more choice of a walk, and its end.
use Rattle.std.proofs.Common.{◌≡◌, ◌⊎◌, ℕ, ◌+◌, ◌<◌, ◌≤◌, List, Bool, true, false, Option, Some, None, min, inl, inr, refl, sym, ap, subst, ◌∙◌, arith}
use Rattle.std.proofs.lemmas.Bool.Decides.{nat_tests}
use Rattle.choice_rank.specs.declared.variable.VarShape.{VarShape}
use Rattle.choice_rank.specs.Choices.{IsChoice, choices_of, index_of, rank_of}
use Rattle.choice_rank.specs.Least.{IsLeast, IsAnswer}
use Rattle.choice_rank.proofs.ChoiceLemmas.{index_lt, index_same}
use Rattle.plain_walk.specs.SoFar.{lower, IsLegalRank, IsBelowAll, IsLowestBelow}

before_or_at : (k n : ℕ) → k < n + 1 → (k < n) ⊎ (k ≡ n)
before_or_at k n l = grind (arith, nat_tests)

le_or : (a b : ℕ) → (a ≤ b) ⊎ (b ≤ a)
le_or a b = grind (arith, nat_tests)

min_left : (a b : ℕ) → a ≤ b → min a b ≡ a
min_left a b l = omega arith

min_right : (a b : ℕ) → b ≤ a → min a b ≡ b
min_right a b l = omega arith

module _ (vars : List VarShape) (legal : List ℕ → Bool) (i : ℕ) (at : List ℕ) (choice : IsChoice vars at) (index : index_of vars at ≡ i) where
  -- a choice of this index is the one that was looked at
  same : (other : List ℕ) → IsChoice vars other → index_of vars other ≡ i → other ≡ at
  same other h e = index_same vars other at h choice (e ∙ sym index)

  below : (rank : ℕ) → ((other : List ℕ) → IsChoice vars other → legal other ≡ true → index_of vars other < i → rank ≤ rank_of vars other) → rank ≤ rank_of vars at → IsBelowAll vars legal (i + 1) rank
  below rank before here other h ok l = elim (before_or_at (index_of vars other) i l) [
    | inl p ↦ before other h ok p
    | inr e ↦ subst (λ (x : List ℕ). rank ≤ rank_of vars x) (sym (same other h e)) here
  ]

  pub legal_turn : (best : Option ℕ) → legal at ≡ true → IsLowestBelow vars legal i best → IsLowestBelow vars legal (i + 1) (Some (lower best (rank_of vars at)))
  legal_turn None ok h = ((at, choice, ok, refl), below (rank_of vars at) (λ other k p l. absurd (h other k p l)) (omega arith))
  legal_turn (Some best) ok h = elim (le_or best (rank_of vars at)) [
    | inl l ↦
        let e = min_left best (rank_of vars at) l in
        subst (λ (r : ℕ). IsLegalRank vars legal r × IsBelowAll vars legal (i + 1) r) (sym e) (h.0, below best h.1 l)
    | inr l ↦
        let e = min_right best (rank_of vars at) l in
        let low : (other : List ℕ) → IsChoice vars other → legal other ≡ true → index_of vars other < i → rank_of vars at ≤ rank_of vars other = λ other k p q. omega (arith, h.1 other k p q) in
        subst (λ (r : ℕ). IsLegalRank vars legal r × IsBelowAll vars legal (i + 1) r) (sym e) ((at, choice, ok, refl), below (rank_of vars at) low (omega arith))
  ]

  never : legal at ≡ false → (other : List ℕ) → IsChoice vars other → legal other ≡ true → index_of vars other ≡ i → ⊥
  never no_legal other h ok e = let f = ap legal (same other h e) in cc (f, ok, no_legal)

  pub illegal_turn : (best : Option ℕ) → legal at ≡ false → IsLowestBelow vars legal i best → IsLowestBelow vars legal (i + 1) best
  illegal_turn None ok h = λ other k p l. elim (before_or_at (index_of vars other) i l) [
    | inl q ↦ h other k p q
    | inr e ↦ never ok other k p e
  ]
  illegal_turn (Some best) ok h = (
    h.0,
    λ other k p l. elim (before_or_at (index_of vars other) i l) [
      | inl q ↦ h.1 other k p q
      | inr e ↦ absurd (never ok other k p e)
    ],
  )

pub answer : (vars : List VarShape) (legal : List ℕ → Bool) (n : ℕ) (best : Option ℕ) → choices_of vars ≤ n → IsLowestBelow vars legal n best → IsAnswer vars legal best
answer vars legal n None l h = λ other k p. h other k p (omega (arith, index_lt vars other k))
answer vars legal n (Some rank) l h =
    let c : List ℕ = h.0.0 in
    let e : rank_of vars c ≡ rank = h.0.3 in (
      c,
      record {
        is_choice = h.0.1;
        is_legal = h.0.2;
        is_lowest = λ other k p. omega (arith, h.1 other k p (omega (arith, index_lt vars other k)), e);
      },
      e,
    )
