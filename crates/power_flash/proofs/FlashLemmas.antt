-- Laws of flash rows.
use Rattle.std.proofs.Common.{◌≡◌, ℕ, zero, suc, ◌+◌, ◌*◌, ◌<◌, ◌≤◌, Bool, true, false, cond, Option, Some, None, List, [], ◌∷◌, length, find, get_or, leb, IfSome, IfNone, inl, inr, refl, sym, arith}
use Rattle.std.specs.List.{position_from}
use Rattle.std.proofs.lemmas.Bool.Decides.{leb_tells}
use Rattle.res_base.specs.Fraction.{Fraction, IsAtMost, whole}
use Rattle.res_base.specs.Lists.{Each}
use Rattle.res_model.specs.declared.table.FlashRange.{FlashRange}
use Rattle.res_model.specs.declared.table.TableParts.{TableParts}
use Rattle.res_model.specs.Power.{has_supply, range_at, rows_of_range, flash_rows, is_covered_by}
use Rattle.res_model.specs.Valid.{IsFlashRange, IsValid}

found_few : (p : FlashRange → Bool) (rs : List FlashRange) → Each IsFlashRange rs → length (rows_of_range (find p rs)) ≤ 8
found_few p [] each = omega arith
found_few p (r ∷ rs) each =
    elim (p r) as (λ b. length (rows_of_range (cond b (Some r) (find p rs))) ≤ 8) [ true ↦ each.0.rows_few | false ↦ found_few p rs each.1 ]

-- a range has at most 8 rows
pub rows_few : (t : TableParts) (vdd : ℕ) → IsValid t → length (flash_rows t vdd) ≤ 8
unfolding range_at
rows_few t vdd valid = found_few (has_supply vdd) t.flash valid.flash.each

-- the first that passes, where the first of all has a number
pub record IsFirst (p : ℕ → Bool) (rows : List ℕ) (i w : ℕ) : Type 0 where
  pub low : i ≤ w
  pub high : w < i + length rows
  pub passes : (k : ℕ) → i + k ≡ w → p (get_or rows k 0) ≡ true
  pub before : (v : ℕ) → v + i < w → p (get_or rows v 0) ≡ false

first_here : (p : ℕ → Bool) (x : ℕ) (xs : List ℕ) (i w : ℕ) → i ≡ w → p x ≡ true → IsFirst p (x ∷ xs) i w
first_here p x xs i w same y = record {
  low = omega arith;
  high = omega arith;
  passes = λ k at. let e : k ≡ 0 = omega arith in rw e y;
  before = λ v below. absurd (omega arith);
}

first_later : (p : ℕ → Bool) (x : ℕ) (xs : List ℕ) (i w : ℕ) → p x ≡ false → IsFirst p xs (i + 1) w → IsFirst p (x ∷ xs) i w
first_later p x xs i w n r = record {
  low = let low = r.low in omega arith;
  high = let high = r.high in omega arith;
  passes = λ k at. passes_at p x xs i w r k at;
  before = λ v below. before_at p x xs i w n r v below;
}
  where
    passes_at : (p : ℕ → Bool) (x : ℕ) (xs : List ℕ) (i w : ℕ) → IsFirst p xs (i + 1) w → (k : ℕ) → i + k ≡ w → p (get_or (x ∷ xs) k 0) ≡ true
    passes_at p x xs i w r zero at = let low = r.low in absurd (omega arith)
    passes_at p x xs i w r (suc k) at = r.passes k (omega arith)

    before_at : (p : ℕ → Bool) (x : ℕ) (xs : List ℕ) (i w : ℕ) → p x ≡ false → IsFirst p xs (i + 1) w → (v : ℕ) → v + i < w → p (get_or (x ∷ xs) v 0) ≡ false
    before_at p x xs i w n r zero below = n
    before_at p x xs i w n r (suc v) below = r.before v (omega arith)

found_in : (p : ℕ → Bool) (x : ℕ) (xs : List ℕ) (i w : ℕ) (b : Bool) → p x ≡ b → (position_from p (i + 1) xs ≡ Some w → IsFirst p xs (i + 1) w) → cond b (Some i) (position_from p (i + 1) xs) ≡ Some w → IsFirst p (x ∷ xs) i w
found_in p x xs i w true is more e = first_here p x xs i w (cc) is
found_in p x xs i w false is more e = first_later p x xs i w is (more e)

found : (p : ℕ → Bool) (rows : List ℕ) (i w : ℕ) → position_from p i rows ≡ Some w → IsFirst p rows i w
found p [] i w e = absurd (cc)
found p (x ∷ xs) i w e = found_in p x xs i w (p x) refl (found p xs (i + 1) w) e

none_in : (p : ℕ → Bool) (x : ℕ) (xs : List ℕ) (i : ℕ) (b : Bool) → p x ≡ b → (position_from p (i + 1) xs ≡ None → (v : ℕ) → v < length xs → p (get_or xs v 0) ≡ false) → ◌≡◌ {A = Option ℕ} (cond b (Some i) (position_from p (i + 1) xs)) None → (v : ℕ) → v < length xs + 1 → p (get_or (x ∷ xs) v 0) ≡ false
none_in p x xs i true is more e v below = absurd (cc)
none_in p x xs i false is more e zero below = is
none_in p x xs i false is more e (suc v) below = more e v (omega arith)

none_found : (p : ℕ → Bool) (rows : List ℕ) (i : ℕ) → position_from p i rows ≡ None → (v : ℕ) → v < length rows → p (get_or rows v 0) ≡ false
none_found p [] i e v below = absurd (omega arith)
none_found p (x ∷ xs) i e v below = none_in p x xs i (p x) refl (none_found p xs (i + 1)) e v (omega arith)

test_of : (x y : ℕ) → x ≤ y → leb x y ≡ true
test_of x y h = elim (leb_tells x y) [ inl t ↦ t.0 | inr n ↦ absurd (omega (arith, h, n.1)) ]

fact_of : (x y : ℕ) → leb x y ≡ true → x ≤ y
fact_of x y e = elim (leb_tells x y) [ inl t ↦ t.1 | inr n ↦ absurd (cc) ]

-- what the wait states that are found are
pub covers_at : (rows : List ℕ) (hclk : Fraction) (r : Option ℕ) → r ≡ position_from (is_covered_by hclk) 0 rows → IfSome r (λ w. (w < length rows) × IsAtMost hclk (whole (get_or rows w 0)))
covers_at rows hclk None e = tt
covers_at rows hclk (Some w) e =
    let f = found (is_covered_by hclk) rows 0 w (sym e) in
    let high = f.high in
    let row = get_or rows w 0 in
    (omega arith, fact_of (hclk.num * 1) (row * hclk.den) (f.passes w (omega arith)))

pub least_at : (rows : List ℕ) (hclk : Fraction) (r : Option ℕ) → r ≡ position_from (is_covered_by hclk) 0 rows → IfSome r (λ w. (v : ℕ) → (v < length rows) × IsAtMost hclk (whole (get_or rows v 0)) → w ≤ v)
least_at rows hclk None e = tt
least_at rows hclk (Some w) e = λ v covers.
    let f = found (is_covered_by hclk) rows 0 w (sym e) in
    elim (leb_tells w v) [
      | inl t ↦ t.1
      | inr n ↦
          let row = get_or rows v 0 in
          let fails : leb (hclk.num * 1) (row * hclk.den) ≡ false = f.before v (let below = n.1 in omega arith) in
          let passes = test_of (hclk.num * 1) (row * hclk.den) covers.1 in
          absurd (cc)
    ]

pub none_at : (rows : List ℕ) (hclk : Fraction) (r : Option ℕ) → r ≡ position_from (is_covered_by hclk) 0 rows → IfNone r ((v : ℕ) → (v < length rows) × IsAtMost hclk (whole (get_or rows v 0)) → ⊥)
none_at rows hclk (Some w) e = tt
none_at rows hclk None e = λ v covers.
    let row = get_or rows v 0 in
    let fails : leb (hclk.num * 1) (row * hclk.den) ≡ false = none_found (is_covered_by hclk) rows 0 (sym e) v covers.0 in
    let passes = test_of (hclk.num * 1) (row * hclk.den) covers.1 in
    absurd (cc)
