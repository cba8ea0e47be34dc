-- Sets in three words.
use Rattle.std.proofs.Common.{◌≡◌, ℕ, suc, zero, ◌+◌, ◌-◌, ◌*◌, ◌/◌, ◌%◌, ◌^◌, ◌<◌, ◌≤◌, List, [], ◌∷◌, length, set, get_or, bit_or, Bool, true, false, eqb, cond, mod-lt, inl, inr, refl, sym, ap, ◌∙◌, add-one, arith}
use Rattle.std.specs.Int.{bit_at, trailing_zeros}
use mir.Val.{bits}
use Rattle.std.specs.Int.{w64}
use Rattle.std.proofs.lemmas.Bool.Decides.{nat_tests}
use Rattle.std.proofs.lemmas.List.{get_or-set_same, get_or-set_other, ext_get_or}
use Rattle.std.proofs.lemmas.Nat.Bits.{bit_at_set_same, bit_at_set_other, bit_at-zero, bit_at_above, bit_at_cat_high, bit_at-trailing_zeros, same_from_bits_below}
use Rattle.std.proofs.lemmas.Nat.{div-add-mod', pow_pos}
use Rattle.std.proofs.Math.Nat.{div-le_self}
use Rattle.res_base.specs.declared.var_set.VarSet.{VarSet}
use Rattle.res_base.specs.Sums.{sum_below, one_if}
use Rattle.res_base.specs.VarSet.{in_set, set_size, IsNext, IsWords}
use Rattle.res_base.proofs.SumLemmas.{split, le_or}

zeros : (i : ℕ) → ◌≡◌ {A = ℕ} (get_or (0 ∷ 0 ∷ 0 ∷ []) i 0) 0
zeros zero = refl
zeros (suc zero) = refl
zeros (suc (suc zero)) = refl
zeros (suc (suc (suc i))) = refl

pub empty_set : (v : ℕ) → in_set record { words = 0 ∷ 0 ∷ 0 ∷ [] } v ≡ false
unfolding in_set
empty_set v = rw (zeros (v / 64)) (rw (bit_at-zero (v % 64)) refl)

pub put_word : (ws : List ℕ) (v w : ℕ) → length ws ≡ 3 → v < 192 → bit_at (get_or (set ws (v / 64) (bit_or (get_or ws (v / 64) 0) (1 * 2 ^ (v % 64) % 2 ^ bits w64))) (w / 64) 0) (w % 64) ≡ cond (eqb w v) 1 (bit_at (get_or ws (w / 64) 0) (w % 64))
put_word ws v w l h =
    let new = bit_or (get_or ws (v / 64) 0) (1 * 2 ^ (v % 64) % 2 ^ bits w64) in
    let here = get_or-set_same ws (v / 64) new 0 (omega arith) in
    elim (split w v) [
      | inl e ↦
          let t : eqb w v ≡ true = grind (arith, nat_tests) in
          rw (t, e, here) (bit_at_set_same w64 (get_or ws (v / 64) 0) (v % 64) (omega arith))
      | inr d ↦
          let t : eqb w v ≡ false = grind (arith, nat_tests) in
          elim (split (w / 64) (v / 64)) [
            | inl p ↦
                rw (t, p, here) (bit_at_set_other w64 (get_or ws (v / 64) 0) (v % 64) (omega arith) (w % 64) (λ q. absurd (omega (arith, d, p, q))))
            | inr q ↦ rw (t, get_or-set_other ws (v / 64) (w / 64) new 0 q) refl
          ]
    ]

pub test_cond : (b : Bool) (x : ℕ) → eqb (cond b 1 x) 1 ≡ cond b true (eqb x 1)
test_cond true x = refl
test_cond false x = refl

pub sum_next : (n : ℕ) (f : ℕ → ℕ) → sum_below (n + 1) f ≡ sum_below n f + f n
sum_next n f = rw add-one refl

pub size_is : (s : VarSet) (k : ℕ) → k ≡ 192 → sum_below k (λ v. one_if (in_set s v)) ≡ set_size s
unfolding set_size
size_is s k e = ap (λ (j : ℕ). sum_below j (λ v. one_if (in_set s v))) e

at_most : (b : Bool) → one_if b ≤ 1
at_most true = omega arith
at_most false = omega arith

pub count_le : (s : VarSet) (k : ℕ) → sum_below k (λ v. one_if (in_set s v)) ≤ k
count_le s zero = omega arith
count_le s (suc k) = omega (arith, count_le s k, at_most (in_set s k))

mod_pow : (n k : ℕ) → n % 2 ^ k < 2 ^ k
mod_pow n k = mod-lt n (pow_pos k)

rest_below : (w d m : ℕ) → w < m → w / d < m
rest_below w d m l = omega (arith, div-le_self w d)

shr_at : (n k i : ℕ) → bit_at n (k + i) ≡ bit_at (n / 2 ^ k) i
shr_at n k i =
    let whole : n / 2 ^ k * 2 ^ k + n % 2 ^ k ≡ n = div-add-mod' n (2 ^ k) in
    let low : n % 2 ^ k < 2 ^ k = mod_pow n k in
    let place : k + i - k ≡ i = omega arith in
    ap (λ (x : ℕ). bit_at x (k + i)) (sym whole) ∙ bit_at_cat_high (n / 2 ^ k) k (n % 2 ^ k) (k + i) low (omega arith) ∙ ap (λ (j : ℕ). bit_at (n / 2 ^ k) j) place

test_bit : (b : ℕ) → b ≡ 0 → eqb b 1 ≡ false
test_bit b e = rw e refl

module _ (s : VarSet) (at : ℕ) (lt : at < 192) where
  -- a bit of the rest of a word
  shifted : (i : ℕ) → at % 64 + i < 64 → in_set s (at + i) ≡ eqb (bit_at (get_or s.words (at / 64) 0 / 2 ^ (at % 64)) i) 1
  unfolding in_set
  shifted i h =
      let word : (at + i) / 64 ≡ at / 64 = omega arith in
      let bit : (at + i) % 64 ≡ at % 64 + i = omega arith in
      rw (word, bit) (ap (λ (b : ℕ). eqb b 1) (shr_at (get_or s.words (at / 64) 0) (at % 64) i))

  at_sum : (x : ℕ) → at ≤ x → x ≡ at + (x - at)
  at_sum x l = omega arith

  -- an empty rest
  pub rest_empty : get_or s.words (at / 64) 0 / 2 ^ (at % 64) ≡ 0 → (x : ℕ) → at ≤ x → x < (at / 64 + 1) * 64 → in_set s x ≡ false
  rest_empty e x l h =
      ap (in_set s) (at_sum x l)
      ∙ shifted (x - at) (omega arith)
      ∙ test_bit (bit_at (get_or s.words (at / 64) 0 / 2 ^ (at % 64)) (x - at)) (rw e (bit_at-zero (x - at)))

  module _ (high : get_or s.words (at / 64) 0 < 2 ^ 64) (some : 0 < get_or s.words (at / 64) 0 / 2 ^ (at % 64)) where
    rest_high : get_or s.words (at / 64) 0 / 2 ^ (at % 64) < 2 ^ bits w64
    rest_high = rest_below (get_or s.words (at / 64) 0) (2 ^ (at % 64)) (2 ^ 64) high

    lowest : (trailing_zeros w64 (get_or s.words (at / 64) 0 / 2 ^ (at % 64)) < 64) × (bit_at (get_or s.words (at / 64) 0 / 2 ^ (at % 64)) (trailing_zeros w64 (get_or s.words (at / 64) 0 / 2 ^ (at % 64))) ≡ 1) × ((i : ℕ) → i < trailing_zeros w64 (get_or s.words (at / 64) 0 / 2 ^ (at % 64)) → bit_at (get_or s.words (at / 64) 0 / 2 ^ (at % 64)) i ≡ 0)
    lowest = bit_at-trailing_zeros w64 (get_or s.words (at / 64) 0 / 2 ^ (at % 64)) some rest_high

    in_word : at % 64 + trailing_zeros w64 (get_or s.words (at / 64) 0 / 2 ^ (at % 64)) < 64
    in_word = elim (le_or (at % 64 + trailing_zeros w64 (get_or s.words (at / 64) 0 / 2 ^ (at % 64))) 64) [
      | inl l ↦ l
      | inr l ↦
          let past = bit_at_above (get_or s.words (at / 64) 0) 64 (at % 64 + trailing_zeros w64 (get_or s.words (at / 64) 0 / 2 ^ (at % 64))) high l in
          let here = shr_at (get_or s.words (at / 64) 0) (at % 64) (trailing_zeros w64 (get_or s.words (at / 64) 0 / 2 ^ (at % 64))) in
          absurd (omega (arith, past, here, lowest.1))
    ]

    pub rest_next : IsNext (in_set s) at (at + trailing_zeros w64 (get_or s.words (at / 64) 0 / 2 ^ (at % 64)))
    rest_next =
        let r = get_or s.words (at / 64) 0 / 2 ^ (at % 64) in
        record {
          at_least = omega arith;
          below = omega (arith, in_word, lt);
          member = shifted (trailing_zeros w64 r) in_word ∙ ap (λ (b : ℕ). eqb b 1) lowest.1;
          before = λ x l h.
              ap (in_set s) (at_sum x l)
              ∙ shifted (x - at) (omega (arith, in_word, h, l))
              ∙ test_bit (bit_at r (x - at)) (lowest.2 (x - at) (omega (arith, h, l)));
        }

pub next_on : (p : ℕ → Bool) (from at r : ℕ) → from ≤ at → ((x : ℕ) → from ≤ x → x < at → p x ≡ false) → IsNext p at r → IsNext p from r
next_on p from at r l none i = record {
  at_least = omega (arith, l, i.at_least);
  below = i.below;
  member = i.member;
  before = λ x k h. elim (le_or x at) [ inl q ↦ none x k q | inr q ↦ i.before x q h ];
}

pub none_on : (s : VarSet) (from at : ℕ) (lt : at < 192) → ((x : ℕ) → from ≤ x → x < at → in_set s x ≡ false) → get_or s.words (at / 64) 0 / 2 ^ (at % 64) ≡ 0 → (x : ℕ) → from ≤ x → x < (at / 64 + 1) * 64 → in_set s x ≡ false
none_on s from at lt none e x k h = elim (le_or x at) [ inl q ↦ none x k q | inr q ↦ rest_empty s at lt e x q h ]

same_bit : (a b : ℕ) → a < 2 → b < 2 → eqb a 1 ≡ eqb b 1 → a ≡ b
same_bit zero zero l h e = refl
same_bit zero (suc zero) l h e = let q : false ≡ true = e in cc
same_bit (suc zero) zero l h e = let q : true ≡ false = e in cc
same_bit (suc zero) (suc zero) l h e = refl
same_bit (suc (suc a)) b l h e = absurd (omega (arith, l))
same_bit a (suc (suc b)) l h e = absurd (omega (arith, h))

-- sets with the same members are the same
module _ (s t : VarSet) (ws : IsWords s) (wt : IsWords t) (same : (v : ℕ) → v < 192 → in_set s v ≡ in_set t v) where
  at_bit : (k i : ℕ) → k < 3 → i < 64 → bit_at (get_or s.words k 0) i ≡ bit_at (get_or t.words k 0) i
  unfolding in_set
  at_bit k i lk li =
      let word : (64 * k + i) / 64 ≡ k = omega arith in
      let bit : (64 * k + i) % 64 ≡ i = omega arith in
      let e : eqb (bit_at (get_or s.words ((64 * k + i) / 64) 0) ((64 * k + i) % 64)) 1 ≡ eqb (bit_at (get_or t.words ((64 * k + i) / 64) 0) ((64 * k + i) % 64)) 1 = same (64 * k + i) (omega (arith, lk, li)) in
      let d = rw (word, bit) at e in
      same_bit (bit_at (get_or s.words k 0) i) (bit_at (get_or t.words k 0) i) (mod-lt (get_or s.words k 0 / 2 ^ i) (omega arith)) (mod-lt (get_or t.words k 0 / 2 ^ i) (omega arith)) d

  same_words : s.words ≡ t.words
  same_words = ext_get_or 0 s.words t.words (ws.long ∙ sym wt.long) (λ k l.
      let lk : k < 3 = omega (arith, l, ws.long) in
      same_from_bits_below 64 (get_or s.words k 0) (get_or t.words k 0) (ws.high k lk) (wt.high k lk) (λ i li. at_bit k i lk li))

  pub same_set : s ≡ t
  same_set = ap (λ (w : List ℕ). let r : VarSet = record { words = w } in r) same_words
