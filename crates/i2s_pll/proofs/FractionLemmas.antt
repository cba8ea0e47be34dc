-- Fractions in order, and how far those of one numerator are from a number.
use Rattle.std.proofs.Common.{◌≡◌, ℕ, ◌+◌, ◌*◌, ◌/◌, ◌<◌, ◌≤◌, ap, arith}
use Rattle.std.proofs.lemmas.Nat.{mul-le}
use Rattle.std.proofs.Math.Nat.{div-mul-le_self, le_of_mul-le-mul_right, lt-div-mul-add}
use Rattle.i2s_pll.specs.Least.{apart}

-- ---- orders of numbers, however large their terms
pub not_above : (a : ℕ) → a ≤ a
not_above a = omega arith

pub weaken : (a b : ℕ) → a < b → a ≤ b
weaken a b l = omega (arith, l)

pub clash : (a b : ℕ) → a < b → b ≡ a → ⊥
clash a b l e = absurd (omega (arith, l, e))

pub both_ways : (a b : ℕ) → a ≤ b → b ≤ a → a ≡ b
both_ways a b l m = omega (arith, l, m)

-- ---- a / b is at most c / d, and that is at most e / f

pub at_most_trans : (a b c d e f : ℕ) → 0 < d → a * d ≤ c * b → c * f ≤ e * d → a * f ≤ e * b
at_most_trans a b c d e f p h k =
    let x = mul-le (a * d) f (c * b) f h (omega arith) in
    let y = mul-le (c * f) b (e * d) b k (omega arith) in
    let z : (a * f) * d ≤ (e * b) * d = omega (arith, x, y) in
    le_of_mul-le-mul_right z p

-- where the ends are equal, so is the middle
pub first_equal : (a b c d e f : ℕ) → 0 < f → a * d ≤ c * b → c * f ≤ e * d → a * f ≡ e * b → a * d ≡ c * b
first_equal a b c d e f p h k s =
    let x = mul-le (c * f) b (e * d) b k (omega arith) in
    let y : (a * f) * d ≡ (e * b) * d = ap (λ n. n * d) s in
    let z : (c * b) * f ≤ (a * d) * f = omega (arith, x, y) in
    let w : c * b ≤ a * d = le_of_mul-le-mul_right z p in
    omega (arith, h, w)

pub second_equal : (a b c d e f : ℕ) → 0 < b → a * d ≤ c * b → c * f ≤ e * d → a * f ≡ e * b → c * f ≡ e * d
second_equal a b c d e f p h k s =
    let x = mul-le (a * d) f (c * b) f h (omega arith) in
    let y : (a * f) * d ≡ (e * b) * d = ap (λ n. n * d) s in
    let z : (e * d) * b ≤ (c * f) * b = omega (arith, x, y) in
    let w : e * d ≤ c * f = le_of_mul-le-mul_right z p in
    omega (arith, k, w)

-- ---- a / x and a / y against a number

from_above : (a rate x y p q : ℕ) → p + rate * x ≡ a → q + rate * y ≡ a → y ≤ x → p * y ≤ q * x
from_above a rate x y p q e f l =
    let g : (p + rate * x) * y ≡ a * y = ap (λ n. n * y) e in
    let h : (q + rate * y) * x ≡ a * x = ap (λ n. n * x) f in
    let k = mul-le a y a x (omega arith) l in
    omega (arith, g, h, k)

from_below : (a rate x y p q : ℕ) → p + a ≡ rate * x → q + a ≡ rate * y → x ≤ y → p * y ≤ q * x
from_below a rate x y p q e f l =
    let g : (p + a) * y ≡ (rate * x) * y = ap (λ n. n * y) e in
    let h : (q + a) * x ≡ (rate * y) * x = ap (λ n. n * x) f in
    let k = mul-le a x a y (omega arith) l in
    omega (arith, g, h, k)

same_above : (a rate x y p q : ℕ) → p + rate * x ≡ a → q + rate * y ≡ a → 0 < a → p * y ≡ q * x → x ≤ y
same_above a rate x y p q e f l s =
    let g : (p + rate * x) * y ≡ a * y = ap (λ n. n * y) e in
    let h : (q + rate * y) * x ≡ a * x = ap (λ n. n * x) f in
    let k : x * a ≤ y * a = omega (arith, g, h, s) in
    le_of_mul-le-mul_right k l

apart_above : (a b : ℕ) → b ≤ a → apart a b + b ≡ a
apart_above a b l = omega (arith, l)

apart_below : (a b : ℕ) → a ≤ b → apart a b + a ≡ b
apart_below a b l = omega (arith, l)

-- where the greater of two dividers still gives at least the rate, it is the nearer
pub nearer_above : (a rate x y : ℕ) → y ≤ x → rate * x ≤ a → apart a (rate * x) * y ≤ apart a (rate * y) * x
nearer_above a rate x y l h =
    let k = mul-le rate y rate x (omega arith) l in
    from_above a rate x y (apart a (rate * x)) (apart a (rate * y)) (apart_above a (rate * x) h) (apart_above a (rate * y) (omega (arith, h, k))) l

pub same_divider : (a rate x y : ℕ) → y ≤ x → rate * x ≤ a → 0 < a → apart a (rate * x) * y ≡ apart a (rate * y) * x → x ≤ y
same_divider a rate x y l h p s =
    let k = mul-le rate y rate x (omega arith) l in
    same_above a rate x y (apart a (rate * x)) (apart a (rate * y)) (apart_above a (rate * x) h) (apart_above a (rate * y) (omega (arith, h, k))) p s

-- where the lesser gives at most the rate, it is the nearer
pub nearer_below : (a rate x y : ℕ) → x ≤ y → a ≤ rate * x → apart a (rate * x) * y ≤ apart a (rate * y) * x
nearer_below a rate x y l h =
    let k = mul-le rate x rate y (omega arith) l in
    from_below a rate x y (apart a (rate * x)) (apart a (rate * y)) (apart_below a (rate * x) h) (apart_below a (rate * y) (omega (arith, h, k))) l

-- ---- the divider at which the rate is crossed: the floor of a / b over c

pub crossing_low : (a b c : ℕ) → (a / b / c) * c * b ≤ a
crossing_low a b c =
    let x : a / b / c * c ≤ a / b = div-mul-le_self (a / b) c in
    let y = mul-le (a / b / c * c) b (a / b) b x (omega arith) in
    let z : a / b * b ≤ a = div-mul-le_self a b in
    omega (arith, y, z)

pub crossing_high : (a b c : ℕ) → 0 < b → 0 < c → a < (a / b / c + 1) * c * b
crossing_high a b c p r =
    let x : a / b < a / b / c * c + c = lt-div-mul-add r in
    let y = mul-le (a / b + 1) b (a / b / c * c + c) b (omega (arith, x)) (omega arith) in
    let z : a < a / b * b + b = lt-div-mul-add p in
    omega (arith, y, z)
