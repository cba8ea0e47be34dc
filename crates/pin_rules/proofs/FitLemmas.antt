-- That no two clash, as a test and as sentences.
use Rattle.std.proofs.Common.{◌≡◌, ◌≢◌, ◌↔◌, ◌<◌, ◌≤◌, ◌==◌, ◌&&◌, ◌||◌, ℕ, zero, suc, List, [], ◌∷◌, Bool, true, false, not, length, get_or, refl, sym, ap, ◌∙◌, arith, inl, inr, ◌⊎◌}
use Rattle.std.proofs.lemmas.Bool.Decides.{nat_tests}
use Rattle.std.specs.Prelude.{AllPairs}
use Rattle.std.specs.List.{list_all}
use Rattle.res_model.specs.declared.table.Mode.{Mode}
use Rattle.res_model.specs.declared.table.Mode.TheVariants.{Exti}
use Rattle.res_model.specs.declared.table.PinUse.{PinUse}
use Rattle.res_model.specs.declared.table.TableParts.{TableParts}
use Rattle.res_model.specs.Placement.{number_of, is_exti, shares_pin, shares_line, clashes, fits, Fits}

both : (a b : Bool) → a ≡ true → b ≡ true → (a && b) ≡ true
both a b p q = rw (p, q) refl

first : (a b : Bool) → (a && b) ≡ true → a ≡ true
first true b p = refl
first false b p = absurd cc

second : (a b : Bool) → (a && b) ≡ true → b ≡ true
second true b p = p
second false b p = absurd cc

negated : (a : Bool) → not a ≡ true → a ≡ false
negated true p = absurd cc
negated false p = refl

negation : (a : Bool) → a ≡ false → not a ≡ true
negation a p = rw p refl

-- one does not clash with any of the rest
apart : (t : TableParts) (u : PinUse) (us : List PinUse) → ((b : ℕ) (d : PinUse) → b < length us → clashes t u (get_or us b d) ≡ false) → list_all (λ w. not (clashes t u w)) us ≡ true
apart t u [] h = refl
apart t u (w ∷ ws) h =
    both (not (clashes t u w)) (list_all (λ x. not (clashes t u x)) ws) (negation (clashes t u w) (h 0 w (omega arith)))
    (apart t u ws (λ b d l. h (suc b) d (omega arith)))

apart_at : (t : TableParts) (u : PinUse) (us : List PinUse) → list_all (λ w. not (clashes t u w)) us ≡ true → (b : ℕ) (d : PinUse) → b < length us → clashes t u (get_or us b d) ≡ false
apart_at t u [] h b d l = absurd (omega arith)
apart_at t u (w ∷ ws) h zero d l = negated (clashes t u w) (first (not (clashes t u w)) (list_all (λ x. not (clashes t u x)) ws) h)
apart_at t u (w ∷ ws) h (suc b) d l = apart_at t u ws (second (not (clashes t u w)) (list_all (λ x. not (clashes t u x)) ws) h) b d (omega arith)

pub fits_from : (t : TableParts) (us : List PinUse) → AllPairs (λ u w. clashes t u w ≡ false) us → fits t us ≡ true
fits_from t [] h = refl
fits_from t (u ∷ us) h =
    both (list_all (λ w. not (clashes t u w)) us) (fits t us) (apart t u us (λ b d l. h 0 (suc b) d (omega arith) (omega arith)))
    (fits_from t us (λ i j d l k. h (suc i) (suc j) d (omega arith) (omega arith)))

pub fits_pairs : (t : TableParts) (us : List PinUse) → fits t us ≡ true → AllPairs (λ u w. clashes t u w ≡ false) us
fits_pairs t [] h i j d l k = absurd (omega arith)
fits_pairs t (u ∷ us) h zero zero d l k = absurd (omega arith)
fits_pairs t (u ∷ us) h zero (suc j) d l k = apart_at t u us (first (list_all (λ w. not (clashes t u w)) us) (fits t us) h) j d (omega arith)
fits_pairs t (u ∷ us) h (suc i) zero d l k = absurd (omega arith)
fits_pairs t (u ∷ us) h (suc i) (suc j) d l k = fits_pairs t us (second (list_all (λ w. not (clashes t u w)) us) (fits t us) h) i j d (omega arith) (omega arith)

same_number : (m n : ℕ) → m ≡ n → (m == n) ≡ true
same_number m n e = grind (arith, nat_tests)

other_number : (m n : ℕ) → (m ≡ n → ⊥) → (m == n) ≡ false
other_number m n e = grind (arith, nat_tests)

either : (a b : Bool) → (a || b) ≡ false → (a ≡ false) × (b ≡ false)
either true b p = absurd cc
either false b p = (refl, p)

neither : (a b : Bool) → a ≡ false → b ≡ false → (a || b) ≡ false
neither a b p q = rw (p, q) refl

no_line : (a b c : Bool) → (a ≡ true → b ≡ true → c ≡ false) → (a && b && c) ≡ false
no_line true true c h = h refl refl
no_line true false c h = refl
no_line false b c h = refl

is_line : (a b c : Bool) → (a && b && c) ≡ false → a ≡ true → b ≡ true → c ≡ false
is_line a b c h p q = rw (p, q) at h

exti_is : (m : Mode) → is_exti m ≡ true → m ≡ Exti
exti_is Exti h = refl
exti_is _ h = absurd cc

pub fits_sentences : (t : TableParts) (us : List PinUse) → fits t us ≡ true → Fits t us
fits_sentences t us h = record {
  pins = λ i j d l k e.
      let c = fits_pairs t us h i j d l k in
      let p = (either (shares_pin (get_or us i d) (get_or us j d)) (shares_line t (get_or us i d) (get_or us j d)) c).0 in
      let q = same_number (get_or us i d).pin (get_or us j d).pin e in
      cc (p, q);
  lines = λ i j d l k a b e.
      let c = fits_pairs t us h i j d l k in
      let p = (either (shares_pin (get_or us i d) (get_or us j d)) (shares_line t (get_or us i d) (get_or us j d)) c).1 in
      let q = same_number (number_of t (get_or us i d).pin) (number_of t (get_or us j d).pin) e in
      let r = is_line (is_exti (get_or us i d).mode) (is_exti (get_or us j d).mode) (number_of t (get_or us i d).pin == number_of t (get_or us j d).pin) p (ap is_exti a) (ap is_exti b) in
      cc (q, r);
}

pub sentences_fit : (t : TableParts) (us : List PinUse) → Fits t us → fits t us ≡ true
sentences_fit t us f = fits_from t us (λ i j d l k.
    neither (shares_pin (get_or us i d) (get_or us j d)) (shares_line t (get_or us i d) (get_or us j d))
    (other_number (get_or us i d).pin (get_or us j d).pin (f.pins i j d l k))
    (no_line (is_exti (get_or us i d).mode) (is_exti (get_or us j d).mode) (number_of t (get_or us i d).pin == number_of t (get_or us j d).pin)
    (λ a b. other_number (number_of t (get_or us i d).pin) (number_of t (get_or us j d).pin)
    (f.lines i j d l k (exti_is (get_or us i d).mode a) (exti_is (get_or us j d).mode b)))))

bool_cases : (b : Bool) → (b ≡ true) ⊎ (b ≡ false)
bool_cases true = inl refl
bool_cases false = inr refl

pub first_clash : (t : TableParts) (us : List PinUse) (i j : ℕ) (d : PinUse) → i < j → j < length us → clashes t (get_or us i d) (get_or us j d) ≡ true → fits t us ≡ false
first_clash t us i j d l k e = elim (bool_cases (fits t us)) [
  | inl h ↦ let c = fits_pairs t us h i j d l k in absurd (cc (c, e))
  | inr h ↦ h
]
