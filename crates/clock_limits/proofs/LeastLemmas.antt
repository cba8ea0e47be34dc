-- The first limit that is broken is the least.
use Rattle.std.proofs.Common.{◌≡◌, ℕ, ◌+◌, ◌<◌, ◌≤◌, Bool, true, false, not, cond, Option, Some, None, List, [], ◌∷◌, inl, inr, ◌∙◌, refl, arith}
use Rattle.res_model.specs.declared.clock.ClockChoice.{ClockChoice}
use Rattle.res_model.specs.declared.clock.Facts.{Facts}
use Rattle.res_model.specs.declared.table.TableParts.{TableParts}
use Rattle.std.proofs.lemmas.Bool.Decides.{eqb_tells}
use Rattle.res_model.specs.Limits.{limits_of, is_met, first_broken, broken_limit}
use Rattle.clock_limits.specs.Ranges.{Allowed, allowed, limits_over, limit_refutes}
use Rattle.clock_limits.specs.Laws.{IsLeastBroken, BrokenIsLeast, RefutingIsLeast}

-- numbers that ascend from a least one
abbrev Ascends : ℕ → List (ℕ × Bool) → Type 0
Ascends low [] = Unit {0}
Ascends low (e ∷ es) = (low ≤ e.0) × (e.0 ≤ 17) × Ascends (e.0 + 1) es

-- no limit has a number below the least
met_below : (low : ℕ) (es : List (ℕ × Bool)) (j : ℕ) → Ascends low es → j < low → is_met j es ≡ true
met_below low [] j up below = refl
met_below low (e ∷ es) j up below =
    elim (eqb_tells e.0 j) [
      | inl y ↦ absurd (omega (arith, y.1, up.0))
      | inr n ↦ rw n.0 (met_below (e.0 + 1) es j up.2 (omega (arith, up.0)))
    ]

abbrev First : ℕ → List (ℕ × Bool) → Option ℕ → Type 0
First low es None = (j : ℕ) → is_met j es ≡ true
First low es (Some k) = (low ≤ k) × (k ≤ 17) × (is_met k es ≡ false) × ((j : ℕ) → j < k → is_met j es ≡ true)

met_more : (e : ℕ × Bool) (es : List (ℕ × Bool)) (j : ℕ) → e.1 ≡ true → is_met j es ≡ true → is_met j (e ∷ es) ≡ true
met_more e es j met more = elim (eqb_tells e.0 j) [ inl y ↦ rw y.0 met | inr n ↦ rw n.0 more ]

unmet_more : (e : ℕ × Bool) (es : List (ℕ × Bool)) (k : ℕ) → e.0 < k → is_met k es ≡ false → is_met k (e ∷ es) ≡ false
unmet_more e es k below more = elim (eqb_tells e.0 k) [ inl y ↦ absurd (omega (arith, y.1)) | inr n ↦ rw n.0 more ]

unmet_here : (e : ℕ × Bool) (es : List (ℕ × Bool)) → e.1 ≡ false → is_met e.0 (e ∷ es) ≡ false
unmet_here e es broken = elim (eqb_tells e.0 e.0) [ inl y ↦ rw y.0 broken | inr n ↦ absurd (n.1 refl) ]

first_more : (low : ℕ) (e : ℕ × Bool) (es : List (ℕ × Bool)) (r : Option ℕ) → low ≤ e.0 → e.1 ≡ true → First (e.0 + 1) es r → First low (e ∷ es) r
first_more low e es None h met first = λ j. met_more e es j met (first j)
first_more low e es (Some k) h met first =
    (omega (arith, first.0), first.1, unmet_more e es k (omega (arith, first.0)) first.2, λ j below. met_more e es j met (first.3 j below))

first_of : (low : ℕ) (es : List (ℕ × Bool)) → Ascends low es → First low es (first_broken es)
first_of low [] up = λ j. refl
first_of low (e ∷ es) up = first_in low e es up (e.1) refl (first_of (e.0 + 1) es up.2)
  where
    first_in : (low : ℕ) (e : ℕ × Bool) (es : List (ℕ × Bool)) → Ascends low (e ∷ es) → (b : Bool) → e.1 ≡ b → First (e.0 + 1) es (first_broken es) → First low (e ∷ es) (cond b (first_broken es) (Some e.0))
    first_in low e es up true is more = first_more low e es (first_broken es) up.0 is more
    first_in low e es up false is more = (up.0, up.1, unmet_here e es is, λ j below. met_below e.0 (e ∷ es) j (omega arith, up.1, up.2) below)

least_of_first : (es : List (ℕ × Bool)) (r : Option ℕ) → First 3 es r → IsLeastBroken (λ j. is_met j es) r
least_of_first es None first = first
least_of_first es (Some k) first = ((first.0, first.1), first.2, first.3)

choice_tests : (t : TableParts) (f : Facts) (c : ClockChoice) → Ascends 3 (limits_of t f c)
unfolding limits_of
choice_tests t f c = (omega arith, omega arith, (omega arith, omega arith, (omega arith, omega arith, (omega arith, omega arith, (omega arith, omega arith, (omega arith, omega arith, (omega arith, omega arith, (omega arith, omega arith, (omega arith, omega arith, (omega arith, omega arith, (omega arith, omega arith, (omega arith, omega arith, (omega arith, omega arith, (omega arith, omega arith, (omega arith, omega arith, tt)))))))))))))))

box_tests : (t : TableParts) (f : Facts) (a : Allowed) → Ascends 3 (limits_over t f a)
unfolding limits_over
box_tests t f a = (omega arith, omega arith, (omega arith, omega arith, (omega arith, omega arith, (omega arith, omega arith, (omega arith, omega arith, (omega arith, omega arith, (omega arith, omega arith, (omega arith, omega arith, (omega arith, omega arith, (omega arith, omega arith, (omega arith, omega arith, (omega arith, omega arith, (omega arith, omega arith, (omega arith, omega arith, (omega arith, omega arith, tt)))))))))))))))

pub broken_is_least : BrokenIsLeast
broken_is_least t f c = least_of_first (limits_of t f c) (broken_limit t f c) (first_of 3 (limits_of t f c) (choice_tests t f c))

not_not : (b : Bool) → not (not b) ≡ b
not_not true = refl
not_not false = refl

same_least : (p q : ℕ → Bool) → ((k : ℕ) → q k ≡ p k) → (r : Option ℕ) → IsLeastBroken p r → IsLeastBroken q r
same_least p q same None is = λ j. same j ∙ is j
same_least p q same (Some k) is = (is.0, same k ∙ is.1, λ j below. same j ∙ is.2 j below)

pub refuting_is_least : RefutingIsLeast
refuting_is_least t f values b =
    let es = limits_over t f (allowed values b) in
    same_least (λ k. is_met k es) (λ k. not (limit_refutes t f values b k)) (λ k. not_not (is_met k es)) (first_broken es)
    (least_of_first es (first_broken es) (first_of 3 es (box_tests t f (allowed values b))))
