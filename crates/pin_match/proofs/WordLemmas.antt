-- Sets by a test.
use Rattle.std.proofs.Common.{◌≡◌, ℕ, zero, suc, ◌+◌, ◌-◌, ◌*◌, ◌/◌, ◌%◌, ◌^◌, ◌<◌, ◌≤◌, get_or, Bool, true, false, eqb, pow-suc, refl, sym, ap, ◌∙◌, arith}
use Rattle.std.specs.Int.{bit_at}
use Rattle.std.proofs.lemmas.Nat.Bits.{bit_at_cat_high, bit_at-zero}
use Rattle.res_base.specs.Sums.{one_if}
use Rattle.res_base.specs.VarSet.{in_set, IsWords}
use Rattle.pin_match.specs.Largest.{word_of, set_where}

bit_small : (b : Bool) → one_if b < 2
bit_small true = omega arith
bit_small false = omega arith

bit_is : (b : Bool) → eqb (one_if b) 1 ≡ b
bit_is true = refl
bit_is false = refl

lowest : (b w : ℕ) → b < 2 → bit_at (b + 2 * w) 0 ≡ b
lowest b w l = omega arith

next_bit : (b w i : ℕ) → b < 2 → bit_at (b + 2 * w) (suc i) ≡ bit_at w i
next_bit b w i l =
    let place : suc i - 1 ≡ i = omega arith in
    let flip : b + 2 * w ≡ w * 2 ^ 1 + b = omega arith in
    ap (λ (x : ℕ). bit_at x (suc i)) flip ∙ bit_at_cat_high w 1 b (suc i) (omega arith) (omega arith) ∙ ap (bit_at w) place

pub bit_word : (count first : ℕ) (p : ℕ → Bool) (i : ℕ) → i < count → bit_at (word_of count first p) i ≡ one_if (p (first + i))
unfolding word_of
bit_word zero first p i l = absurd (omega arith)
bit_word (suc count) first p zero l =
    let place : first + 0 ≡ first = omega arith in
    lowest (one_if (p first)) (word_of count (first + 1) p) (bit_small (p first)) ∙ ap (λ (j : ℕ). one_if (p j)) (sym place)
bit_word (suc count) first p (suc i) l =
    let place : first + 1 + i ≡ first + suc i = omega arith in
    next_bit (one_if (p first)) (word_of count (first + 1) p) i (bit_small (p first)) ∙ bit_word count (first + 1) p i (omega arith) ∙ ap (λ (j : ℕ). one_if (p j)) place

pub word_high : (count first : ℕ) (p : ℕ → Bool) → word_of count first p < 2 ^ count
unfolding word_of
word_high zero first p = omega arith
word_high (suc count) first p = omega (arith, word_high count (first + 1) p, bit_small (p first), pow-suc 2 count)

module _ (p : ℕ → Bool) where
  word_at : (k : ℕ) → k < 3 → get_or (set_where p).words k 0 ≡ word_of 64 (64 * k) p
  unfolding set_where
  word_at zero l = refl
  word_at (suc zero) l = refl
  word_at (suc (suc zero)) l = refl
  word_at (suc (suc (suc k))) l = absurd (omega arith)

  pub set_words : IsWords (set_where p)
  unfolding set_where
  set_words = record {
    long = refl;
    high = λ k l. rw (word_at k l) (word_high 64 (64 * k) p);
  }

  pub set_test : (v : ℕ) → v < 192 → in_set (set_where p) v ≡ p v
  unfolding in_set
  set_test v l =
      let whole : 64 * (v / 64) + v % 64 ≡ v = omega arith in
      ap (λ (w : ℕ). eqb (bit_at w (v % 64)) 1) (word_at (v / 64) (omega arith))
      ∙ ap (λ (b : ℕ). eqb b 1) (bit_word 64 (64 * (v / 64)) p (v % 64) (omega arith))
      ∙ bit_is (p (64 * (v / 64) + v % 64))
      ∙ ap p whole

past_words : (p : ℕ → Bool) (k : ℕ) → 3 ≤ k → ◌≡◌ {A = ℕ} (get_or (set_where p).words k 0) 0
unfolding set_where
past_words p zero l = absurd (omega (arith, l))
past_words p (suc zero) l = absurd (omega (arith, l))
past_words p (suc (suc zero)) l = absurd (omega (arith, l))
past_words p (suc (suc (suc k))) l = refl

-- no number from 192 on is in
pub in_words : (p : ℕ → Bool) (v : ℕ) → 192 ≤ v → in_set (set_where p) v ≡ true → ⊥
unfolding in_set
in_words p v l e =
    let none : in_set (set_where p) v ≡ false = ap (λ (w : ℕ). eqb (bit_at w (v % 64)) 1) (past_words p (v / 64) (omega arith)) ∙ ap (λ (b : ℕ). eqb b 1) (bit_at-zero (v % 64)) in
    let q : true ≡ false = sym e ∙ none in
    cc
