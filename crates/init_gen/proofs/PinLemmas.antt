-- What one modify does to the fields of all pins.
use Rattle.std.proofs.Common.{◌≡◌, ℕ, ◌+◌, ◌-◌, ◌*◌, ◌/◌, ◌%◌, ◌^◌, ◌<◌, ◌≤◌, ◌≢◌, List, length, get_or, set, Bool, true, false, cond, eqb, ltb, bit_and, bit_or, inl, inr, refl, sym, ap, ◌∙◌, arith}
use Rattle.std.proofs.lemmas.Bool.{eq-eqb}
use Rattle.std.proofs.lemmas.Bool.Decides.{nat_tests, eqb_tells}
use Rattle.std.proofs.lemmas.List.{get_or-set_other, length-set}
use Rattle.std.proofs.lemmas.Grind.{get_or-set_at}
use Rattle.reg_map.specs.declared.register.GpioReg.TheVariants as kind
use Rattle.reg_map.specs.Fields.{field_of}
use Rattle.reg_machine.specs.Words.{number, slot}
use Rattle.reg_machine.specs.Pins.{mode_field, af_kind, af_field}
use Rattle.reg_map.proofs.BitLemmas.{field_stays, field_new, mask_two, set_two, mask_four, set_four}

-- a word and a list after a modify of one field
abbrev pub word_put : ℕ → ℕ → ℕ → ℕ → ℕ
word_put w k j v = bit_or (bit_and w (2 ^ 32 - 1 - (2 ^ j - 1) * 2 ^ k)) (v * 2 ^ k)

abbrev pub put : List ℕ → ℕ → ℕ → ℕ → ℕ → List ℕ
put g i k j v = set g i (word_put (get_or g i 0) k j v)

if_same : (a x y : ℕ) → cond (eqb a a) x y ≡ x
if_same a x y = ap (λ b. cond b x y) (eq-eqb a a refl)

if_other : (a b x y : ℕ) → a ≢ b → cond (eqb a b) x y ≡ y
if_other a b x y d = elim (eqb_tells a b) [ inl e ↦ absurd (d e.1) | inr e ↦ ap (λ t. cond t x y) e.0 ]

pub two_new : (w a v : ℕ) → a < 16 → v < 4 → field_of (2 * a) 2 (word_put w (2 * a) 2 v) ≡ v
two_new w a v l s = field_new w _ _ (2 * a) 2 v (mask_two a a l l ∙ if_same a 0 3) (set_two a a v l l s ∙ if_same a v 0)

pub two_stays : (w a b v : ℕ) → a < 16 → b < 16 → v < 4 → a ≢ b → field_of (2 * b) 2 (word_put w (2 * a) 2 v) ≡ field_of (2 * b) 2 w
two_stays w a b v la lb s d = field_stays w _ _ (2 * b) 2 (mask_two a b la lb ∙ if_other a b 0 3 d) (set_two a b v la lb s ∙ if_other a b v 0 d)

pub four_new : (w a v : ℕ) → a < 8 → v < 16 → field_of (4 * a) 4 (word_put w (4 * a) 4 v) ≡ v
four_new w a v l s = field_new w _ _ (4 * a) 4 v (mask_four a a l l ∙ if_same a 0 15) (set_four a a v l l s ∙ if_same a v 0)

pub four_stays : (w a b v : ℕ) → a < 8 → b < 8 → v < 16 → a ≢ b → field_of (4 * b) 4 (word_put w (4 * a) 4 v) ≡ field_of (4 * b) 4 w
four_stays w a b v la lb s d = field_stays w _ _ (4 * b) 4 (mask_four a b la lb ∙ if_other a b 0 15 d) (set_four a b v la lb s ∙ if_other a b v 0 d)

-- ---- where a pin's function stands
number_if : (b : Bool) → number (cond b kind.Afrl kind.Afrh) ≡ cond b 4 5
number_if true = refl
number_if false = refl

halves : (n : ℕ) → n < 16 → cond (ltb n 8) 4 5 ≡ 4 + n / 8
halves n l = grind (arith, nat_tests)

pub af_place : (p : ℕ) → slot (p / 16) (af_kind p) ≡ p / 16 * 6 + (4 + p % 16 / 8)
af_place p = ap (λ x. p / 16 * 6 + x) (number_if (ltb (p % 16) 8) ∙ halves (p % 16) (omega arith))

-- ---- a list after a modify for the pin p: what other pins show
pub record Moved (p : ℕ) (g h : List ℕ) : Type 0 where
  pub size : length h ≡ 54
  pub mode : (q : ℕ) → q < 144 → q ≢ p → mode_field q h ≡ mode_field q g
  pub af : (q : ℕ) → q < 144 → q ≢ p → af_field q h ≡ af_field q g

sized : (g : List ℕ) (i x : ℕ) → length g ≡ 54 → length (set g i x) ≡ 54
sized g i x e = length-set g i x ∙ e

-- a write to another word
mode_elsewhere : (g : List ℕ) (i x q : ℕ) → q / 16 * 6 + 0 ≢ i → mode_field q (set g i x) ≡ mode_field q g
mode_elsewhere g i x q d = ap (field_of (2 * (q % 16)) 2) (get_or-set_other g i (q / 16 * 6 + 0) x 0 d)

af_elsewhere : (g : List ℕ) (i x q : ℕ) → slot (q / 16) (af_kind q) ≢ i → af_field q (set g i x) ≡ af_field q g
af_elsewhere g i x q d = ap (field_of (4 * (q % 8)) 4) (get_or-set_other g i (slot (q / 16) (af_kind q)) x 0 d)

-- PUPDR, OSPEEDR, OTYPER
pub quiet_mode : (g : List ℕ) (p c x q : ℕ) → 1 ≤ c → c < 4 → mode_field q (set g (p / 16 * 6 + c) x) ≡ mode_field q g
quiet_mode g p c x q l u = mode_elsewhere g (p / 16 * 6 + c) x q (λ e. omega (arith, e))

pub quiet_af : (g : List ℕ) (p c x q : ℕ) → 1 ≤ c → c < 4 → af_field q (set g (p / 16 * 6 + c) x) ≡ af_field q g
quiet_af g p c x q l u = af_elsewhere g (p / 16 * 6 + c) x q (λ e. omega (arith, af_place q, e))

pub quiet_moved : (g : List ℕ) (p c x : ℕ) → length g ≡ 54 → 1 ≤ c → c < 4 → Moved p g (set g (p / 16 * 6 + c) x)
quiet_moved g p c x e l u = record { size = sized g (p / 16 * 6 + c) x e; mode = λ q m d. quiet_mode g p c x q l u; af = λ q m d. quiet_af g p c x q l u }

-- AFRL and AFRH
module _ (g : List ℕ) (p f : ℕ) (e : length g ≡ 54) (l : p < 144) (s : f < 16) where
  af_inside : slot (p / 16) (af_kind p) < length g
  af_inside = omega (arith, af_place p, e)

  pub af_mode : (q : ℕ) → mode_field q (put g (slot (p / 16) (af_kind p)) (4 * (p % 8)) 4 f) ≡ mode_field q g
  af_mode q = mode_elsewhere g (slot (p / 16) (af_kind p)) _ q (λ h. omega (arith, af_place p, h))

  pub af_own : af_field p (put g (slot (p / 16) (af_kind p)) (4 * (p % 8)) 4 f) ≡ f
  af_own =
      let i = slot (p / 16) (af_kind p) in
      ap (field_of (4 * (p % 8)) 4) (get_or-set_at g i i (word_put (get_or g i 0) (4 * (p % 8)) 4 f) 0 refl af_inside)
      ∙ four_new (get_or g i 0) (p % 8) f (omega arith) s

  af_others : (q : ℕ) → q ≢ p → af_field q (put g (slot (p / 16) (af_kind p)) (4 * (p % 8)) 4 f) ≡ af_field q g
  af_others q d =
      let i = slot (p / 16) (af_kind p) in
      let j = slot (q / 16) (af_kind q) in
      elim (eqb_tells j i) [
        | inl y ↦
            let apart : p % 8 ≢ q % 8 = λ h. d (omega (arith, af_place p, af_place q, y.1, h)) in
            ap (field_of (4 * (q % 8)) 4) (get_or-set_at g i j (word_put (get_or g i 0) (4 * (p % 8)) 4 f) 0 y.1 af_inside)
            ∙ four_stays (get_or g i 0) (p % 8) (q % 8) f (omega arith) (omega arith) s apart
            ∙ ap (λ n. field_of (4 * (q % 8)) 4 (get_or g n 0)) (sym y.1)
        | inr n ↦ af_elsewhere g i _ q n.1
      ]

  pub af_moved : Moved p g (put g (slot (p / 16) (af_kind p)) (4 * (p % 8)) 4 f)
  af_moved = record { size = sized g (slot (p / 16) (af_kind p)) _ e; mode = λ q m d. af_mode q; af = λ q m d. af_others q d }

-- MODER
module _ (g : List ℕ) (p v : ℕ) (e : length g ≡ 54) (l : p < 144) (s : v < 4) where
  mode_inside : p / 16 * 6 + 0 < length g
  mode_inside = omega (arith, e)

  pub mode_af : (q : ℕ) → af_field q (put g (p / 16 * 6 + 0) (2 * (p % 16)) 2 v) ≡ af_field q g
  mode_af q = af_elsewhere g (p / 16 * 6 + 0) _ q (λ h. omega (arith, af_place q, h))

  pub mode_own : mode_field p (put g (p / 16 * 6 + 0) (2 * (p % 16)) 2 v) ≡ v
  mode_own =
      let i = p / 16 * 6 + 0 in
      ap (field_of (2 * (p % 16)) 2) (get_or-set_at g i i (word_put (get_or g i 0) (2 * (p % 16)) 2 v) 0 refl mode_inside)
      ∙ two_new (get_or g i 0) (p % 16) v (omega arith) s

  mode_others : (q : ℕ) → q ≢ p → mode_field q (put g (p / 16 * 6 + 0) (2 * (p % 16)) 2 v) ≡ mode_field q g
  mode_others q d =
      let i = p / 16 * 6 + 0 in
      let j = q / 16 * 6 + 0 in
      elim (eqb_tells j i) [
        | inl y ↦
            let apart : p % 16 ≢ q % 16 = λ h. d (omega (arith, y.1, h)) in
            ap (field_of (2 * (q % 16)) 2) (get_or-set_at g i j (word_put (get_or g i 0) (2 * (p % 16)) 2 v) 0 y.1 mode_inside)
            ∙ two_stays (get_or g i 0) (p % 16) (q % 16) v (omega arith) (omega arith) s apart
            ∙ ap (λ n. field_of (2 * (q % 16)) 2 (get_or g n 0)) (sym y.1)
        | inr n ↦ mode_elsewhere g i _ q n.1
      ]

  pub mode_moved : Moved p g (put g (p / 16 * 6 + 0) (2 * (p % 16)) 2 v)
  mode_moved = record { size = sized g (p / 16 * 6 + 0) _ e; mode = λ q m d. mode_others q d; af = λ q m d. mode_af q }
