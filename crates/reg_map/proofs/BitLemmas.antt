-- What a modify makes of a field of a word, and which fields two pins have.
use Rattle.std.proofs.Common.{◌≡◌, ℕ, zero, suc, ◌-◌, ◌*◌, ◌/◌, ◌%◌, ◌^◌, ◌<◌, Bool, true, false, ◌&&◌, cond, eqb, bit_and, bit_or, inl, inr, refl, sym, ap, subst, ◌∙◌, arith}
use Rattle.std.proofs.lemmas.Nat.{and_shr, or_shr, and_mod, or_mod, and_mask, and_comm, or_comm, pow_pos}
use Rattle.std.proofs.lemmas.Bool.{cases_lt}
use Rattle.std.proofs.lemmas.Bool.Decides.{nat_tests}
use Rattle.std.proofs.Math.Nat.{mod-eq_of_lt}

pub field_parts : (w m s k j : ℕ) → bit_or (bit_and w m) s / 2 ^ k % 2 ^ j ≡ bit_or (bit_and (w / 2 ^ k % 2 ^ j) (m / 2 ^ k % 2 ^ j)) (s / 2 ^ k % 2 ^ j)
field_parts w m s k j =
    ap (λ x. x % 2 ^ j) (or_shr (bit_and w m) s k ∙ ap (λ x. bit_or x (s / 2 ^ k)) (and_shr w m k))
    ∙ or_mod (bit_and (w / 2 ^ k) (m / 2 ^ k)) (s / 2 ^ k) j
    ∙ ap (λ x. bit_or x (s / 2 ^ k % 2 ^ j)) (and_mod (w / 2 ^ k) (m / 2 ^ k) j)

same_mod : (x j : ℕ) → x % 2 ^ j % 2 ^ j ≡ x % 2 ^ j
same_mod x j = mod-eq_of_lt (omega (arith, pow_pos j))

-- a field outside the mask stays
pub field_stays : (w m s k j : ℕ) → m / 2 ^ k % 2 ^ j ≡ 2 ^ j - 1 → s / 2 ^ k % 2 ^ j ≡ 0 → bit_or (bit_and w m) s / 2 ^ k % 2 ^ j ≡ w / 2 ^ k % 2 ^ j
field_stays w m s k j full none =
    field_parts w m s k j
    ∙ ap (λ x. bit_or (bit_and (w / 2 ^ k % 2 ^ j) x) (s / 2 ^ k % 2 ^ j)) full
    ∙ ap (bit_or (bit_and (w / 2 ^ k % 2 ^ j) (2 ^ j - 1))) none
    ∙ or_comm (bit_and (w / 2 ^ k % 2 ^ j) (2 ^ j - 1)) 0
    ∙ and_mask (w / 2 ^ k % 2 ^ j) j
    ∙ same_mod (w / 2 ^ k) j

-- the field of the mask is the new value
pub field_new : (w m s k j v : ℕ) → m / 2 ^ k % 2 ^ j ≡ 0 → s / 2 ^ k % 2 ^ j ≡ v → bit_or (bit_and w m) s / 2 ^ k % 2 ^ j ≡ v
field_new w m s k j v none new =
    field_parts w m s k j
    ∙ ap (λ x. bit_or (bit_and (w / 2 ^ k % 2 ^ j) x) (s / 2 ^ k % 2 ^ j)) none
    ∙ ap (λ x. bit_or x (s / 2 ^ k % 2 ^ j)) (and_comm (w / 2 ^ k % 2 ^ j) 0)
    ∙ new

-- ---- tests over all numbers below one
abbrev pub all_below : ℕ → (ℕ → Bool) → Bool
all_below zero f = true
all_below (suc n) f = f n && all_below n f

first : (a b : Bool) → (a && b) ≡ true → a ≡ true
first true b h = refl
first false b h = h

second : (a b : Bool) → (a && b) ≡ true → b ≡ true
second true b h = h
second false b h = cc

pub at_below : (n k : ℕ) (f : ℕ → Bool) → all_below n f ≡ true → k < n → f k ≡ true
at_below zero k f h l = absurd (omega arith)
at_below (suc n) k f h l = elim (cases_lt k n) [
  | inl y ↦ at_below n k f (second (f n) (all_below n f) h) y
  | inr n_is ↦ let e : k ≡ n = omega arith in subst (λ x. f x ≡ true) (sym e) (first (f n) (all_below n f) h)
]

same : (a b : ℕ) → eqb a b ≡ true → a ≡ b
same a b h = grind (arith, nat_tests)

-- two bits a pin, 16 pins
pub mask_two : (a b : ℕ) → a < 16 → b < 16 → (2 ^ 32 - 1 - (2 ^ 2 - 1) * 2 ^ (2 * a)) / 2 ^ (2 * b) % 2 ^ 2 ≡ cond (eqb a b) 0 3
mask_two a b la lb =
    same _ _ (at_below 16 b (λ y. eqb ((2 ^ 32 - 1 - (2 ^ 2 - 1) * 2 ^ (2 * a)) / 2 ^ (2 * y) % 2 ^ 2) (cond (eqb a y) 0 3))
    (at_below 16 a (λ x. all_below 16 (λ y. eqb ((2 ^ 32 - 1 - (2 ^ 2 - 1) * 2 ^ (2 * x)) / 2 ^ (2 * y) % 2 ^ 2) (cond (eqb x y) 0 3))) refl la) lb)

pub set_two : (a b v : ℕ) → a < 16 → b < 16 → v < 4 → v * 2 ^ (2 * a) / 2 ^ (2 * b) % 2 ^ 2 ≡ cond (eqb a b) v 0
set_two a b v la lb lv =
    same _ _ (at_below 4 v (λ z. eqb (z * 2 ^ (2 * a) / 2 ^ (2 * b) % 2 ^ 2) (cond (eqb a b) z 0))
    (at_below 16 b (λ y. all_below 4 (λ z. eqb (z * 2 ^ (2 * a) / 2 ^ (2 * y) % 2 ^ 2) (cond (eqb a y) z 0)))
    (at_below 16 a (λ x. all_below 16 (λ y. all_below 4 (λ z. eqb (z * 2 ^ (2 * x) / 2 ^ (2 * y) % 2 ^ 2) (cond (eqb x y) z 0)))) refl la) lb) lv)

-- four bits a pin, 8 pins
pub mask_four : (a b : ℕ) → a < 8 → b < 8 → (2 ^ 32 - 1 - (2 ^ 4 - 1) * 2 ^ (4 * a)) / 2 ^ (4 * b) % 2 ^ 4 ≡ cond (eqb a b) 0 15
mask_four a b la lb =
    same _ _ (at_below 8 b (λ y. eqb ((2 ^ 32 - 1 - (2 ^ 4 - 1) * 2 ^ (4 * a)) / 2 ^ (4 * y) % 2 ^ 4) (cond (eqb a y) 0 15))
    (at_below 8 a (λ x. all_below 8 (λ y. eqb ((2 ^ 32 - 1 - (2 ^ 4 - 1) * 2 ^ (4 * x)) / 2 ^ (4 * y) % 2 ^ 4) (cond (eqb x y) 0 15))) refl la) lb)

pub set_four : (a b v : ℕ) → a < 8 → b < 8 → v < 16 → v * 2 ^ (4 * a) / 2 ^ (4 * b) % 2 ^ 4 ≡ cond (eqb a b) v 0
set_four a b v la lb lv =
    same _ _ (at_below 16 v (λ z. eqb (z * 2 ^ (4 * a) / 2 ^ (4 * b) % 2 ^ 4) (cond (eqb a b) z 0))
    (at_below 8 b (λ y. all_below 16 (λ z. eqb (z * 2 ^ (4 * a) / 2 ^ (4 * y) % 2 ^ 4) (cond (eqb a y) z 0)))
    (at_below 8 a (λ x. all_below 8 (λ y. all_below 16 (λ z. eqb (z * 2 ^ (4 * x) / 2 ^ (4 * y) % 2 ^ 4) (cond (eqb x y) z 0)))) refl la) lb) lv)
