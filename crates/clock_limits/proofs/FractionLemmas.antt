-- Fractions in order.
use Rattle.std.proofs.Common.{◌≡◌, ℕ, ◌*◌, ◌<◌, ◌≤◌, Bool, true, false, ◌&&◌, ◌||◌, inl, inr, refl, sym, arith}
use Rattle.std.proofs.lemmas.Bool.Decides.{leb_tells}
use Rattle.std.proofs.lemmas.Nat.{mul-le}
use Rattle.std.proofs.Math.Nat.{le_of_mul-le-mul_right}
use Rattle.res_base.specs.Fraction.{Fraction, IsAtMost, at_most, times, over}

pub test_of : (a b : Fraction) → IsAtMost a b → at_most a b ≡ true
test_of a b h = elim (leb_tells (a.num * b.den) (b.num * a.den)) [ inl t ↦ t.0 | inr n ↦ absurd (omega (arith, h, n.1)) ]

pub fact_of : (a b : Fraction) → at_most a b ≡ true → IsAtMost a b
fact_of a b e = elim (leb_tells (a.num * b.den) (b.num * a.den)) [ inl t ↦ t.1 | inr n ↦ absurd (cc) ]

-- one of two fractions is at most the other
pub other_way : (a b : Fraction) → at_most a b ≡ false → IsAtMost b a
other_way a b e = elim (leb_tells (a.num * b.den) (b.num * a.den)) [ inl t ↦ absurd (cc) | inr n ↦ omega (arith, n.1) ]

pub same_is_at_most : (a : Fraction) → IsAtMost a a
same_is_at_most a = omega arith

pub times_mono : (a b : Fraction) (j k : ℕ) → IsAtMost a b → j ≤ k → IsAtMost (times a j) (times b k)
times_mono a b j k h l = omega (arith, mul-le (a.num * b.den) j (b.num * a.den) k h l)

pub over_mono : (a b : Fraction) (j k : ℕ) → IsAtMost a b → j ≤ k → IsAtMost (over a k) (over b j)
over_mono a b j k h l = omega (arith, mul-le (a.num * b.den) j (b.num * a.den) k h l)

-- the middle is a fraction
pub at_most_trans : (a b c : Fraction) → 0 < b.den → IsAtMost a b → IsAtMost b c → IsAtMost a c
at_most_trans a b c p h k =
    let x = mul-le (a.num * b.den) c.den (b.num * a.den) c.den h (omega arith) in
    let y = mul-le (b.num * c.den) a.den (c.num * b.den) a.den k (omega arith) in
    let z : (a.num * c.den) * b.den ≤ (c.num * a.den) * b.den = omega (arith, x, y) in
    le_of_mul-le-mul_right z p

-- tests along the order
pub from_below : (a b c : Fraction) → 0 < b.den → IsAtMost a b → at_most b c ≡ true → at_most a c ≡ true
from_below a b c p h e = test_of a c (at_most_trans a b c p h (fact_of b c e))

pub to_above : (a b c : Fraction) → 0 < b.den → IsAtMost b c → at_most a b ≡ true → at_most a c ≡ true
to_above a b c p h e = test_of a c (at_most_trans a b c p (fact_of a b e) h)

-- two tests that imply each other are one
pub same_test : (x y : Bool) → (x ≡ true → y ≡ true) → (y ≡ true → x ≡ true) → x ≡ y
same_test true y h k = sym (h refl)
same_test false true h k = k refl
same_test false false h k = refl

pub and_left : (x y : Bool) → (x && y) ≡ true → x ≡ true
and_left true y e = refl
and_left false y e = e

pub and_right : (x y : Bool) → (x && y) ≡ true → y ≡ true
and_right true y e = e
and_right false y e = absurd (cc)

pub both : (x y : Bool) → x ≡ true → y ≡ true → (x && y) ≡ true
both x y p q = rw p q

pub or_false : (x : Bool) → (x || false) ≡ x
or_false true = refl
or_false false = refl

pub and_true : (x : Bool) → (x && true) ≡ x
and_true true = refl
and_true false = refl
