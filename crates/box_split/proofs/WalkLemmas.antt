-- What the code that walks a path writes.
use Rattle.std.proofs.Common.{◌≡◌, ℕ, zero, suc, ◌+◌, ◌-◌, ◌<◌, ◌≤◌, List, [], ◌∷◌, ◌++◌, length, take, drop, get_or, set, Bool, true, false, ◌&&◌, cond, ltb, leb, Option, Some, None, refl, ap, sym, ◌∙◌, subst, arith, inl, inr, below_more}
use Rattle.std.specs.Option.{option_map_or}
use Rattle.std.proofs.lemmas.Bool.Decides.{nat_tests}
use Rattle.std.proofs.lemmas.List.{drop_more, length-set, get_or-set_same, get_or-set_other}
use Rattle.choice_rank.specs.declared.variable.VarShape.{VarShape}
use Rattle.box_split.specs.Boxes.{Run, whole, is_single, lows, IsBox}
use Rattle.box_split.specs.Paths.{cut_of, lower, upper, split_from}
use Rattle.box_split.specs.BoxIn.{runs_in, AreSingle}
use Rattle.choice_rank.proofs.ChoiceLemmas.{nothing}
use Rattle.box_split.proofs.RunLemmas.{lt_tells, cut_inside}

pub runs_more : (i : ℕ) (lo hi : List ℕ) → i < length lo → i < length hi → runs_in (suc i) lo hi ≡ runs_in i lo hi ++ record { low = get_or lo i 0; high = get_or hi i 0 } ∷ []
runs_more i [] hi h k = absurd (omega arith)
runs_more i (l ∷ lo) [] h k = absurd (omega arith)
runs_more zero (l ∷ lo) (u ∷ hi) h k = refl
runs_more (suc i) (l ∷ lo) (u ∷ hi) h k = ap (λ rs. record { low = l; high = u } ∷ rs) (runs_more i lo hi (omega arith) (omega arith))

pub runs_past : (i : ℕ) (lo hi : List ℕ) (x y : ℕ) → runs_in i (set lo i x) (set hi i y) ≡ runs_in i lo hi
runs_past zero lo hi x y = refl
runs_past (suc i) [] hi x y = refl
runs_past (suc i) (l ∷ lo) [] x y = refl
runs_past (suc i) (l ∷ lo) (u ∷ hi) x y = ap (λ rs. record { low = l; high = u } ∷ rs) (runs_past i lo hi x y)

pub whole_more : (i : ℕ) (vs : List VarShape) → i < length vs → whole (take (suc i) vs) ≡ whole (take i vs) ++ record { low = 0; high = (get_or vs i nothing).size - 1 } ∷ []
whole_more i [] h = absurd (omega arith)
whole_more zero (v ∷ vs) h = refl
whole_more (suc i) (v ∷ vs) h = ap (λ rs. record { low = 0; high = v.size - 1 } ∷ rs) (whole_more i vs (omega arith))

pub whole_turn : (i : ℕ) (vs : List VarShape) (lo hi : List ℕ) → i < length vs → i < length lo → i < length hi → runs_in i lo hi ≡ whole (take i vs) → runs_in (i + 1) (set lo i 0) (set hi i ((get_or vs i nothing).size - 1)) ≡ whole (take (i + 1) vs)
whole_turn i vs lo hi h k m e =
    let y = (get_or vs i nothing).size - 1 in
    let one : i + 1 ≡ suc i = omega arith in
    rw one
    (runs_more i (set lo i 0) (set hi i y) (omega (arith, length-set lo i 0)) (omega (arith, length-set hi i y))
    ∙ ap (λ rs. rs ++ record { low = get_or (set lo i 0) i 0; high = get_or (set hi i y) i 0 } ∷ []) (runs_past i lo hi 0 y ∙ e)
    ∙ ap (λ l. whole (take i vs) ++ record { low = l; high = get_or (set hi i y) i 0 } ∷ []) (get_or-set_same lo i 0 0 k)
    ∙ ap (λ u. whole (take i vs) ++ record { low = 0; high = u } ∷ []) (get_or-set_same hi i y 0 m)
    ∙ sym (whole_more i vs h))

-- one variable on
pub split_more : (count i : ℕ) (lo hi : List ℕ) → i < count → count ≤ length lo → count ≤ length hi → split_from i (runs_in (count - i) (drop i lo) (drop i hi)) ≡ cond (ltb (get_or lo i 0) (get_or hi i 0)) (Some (i, cut_of (record { low = get_or lo i 0; high = get_or hi i 0 }))) (split_from (i + 1) (runs_in (count - (i + 1)) (drop (i + 1) lo) (drop (i + 1) hi)))
split_more count i lo hi h k m =
    let e : count - i ≡ suc (count - (i + 1)) = omega arith in
    let il : i < length lo = omega arith in
    let ih : i < length hi = omega arith in
    rw (e, drop_more lo i 0 il, drop_more hi i 0 ih) refl

-- what the first variable with two positions says of the halves
pub record Found (n : ℕ) (lo hi : List ℕ) (i k : ℕ) : Type 0 where
  pub within : i < n
  pub open_box : is_single (runs_in n lo hi) ≡ false
  pub low_half : lower (runs_in n lo hi) ≡ runs_in n lo (set hi i k)
  pub high_half : upper (runs_in n lo hi) ≡ runs_in n (set lo i (k + 1)) hi
  pub below : k < get_or hi i 0

pub and_no : (a b : Bool) → b ≡ false → (a && b) ≡ false
and_no true b h = h
and_no false b h = refl

pub found : (n : ℕ) (lo hi : List ℕ) (j v k : ℕ) → n ≤ length lo → n ≤ length hi → split_from j (runs_in n lo hi) ≡ Some (v, k) → (i : ℕ) × (v ≡ j + i) × Found n lo hi i k
found zero lo hi j v k p q e = cc
found (suc n) [] hi j v k p q e = absurd (omega arith)
found (suc n) (l ∷ lo) [] j v k p q e = absurd (omega arith)
found (suc n) (l ∷ lo) (u ∷ hi) j v k p q e = elim (lt_tells l u) [
  | inl y ↦
      let r : Run = record { low = l; high = u } in
      let is : ◌≡◌ {A = Option (ℕ × ℕ)} (Some (j, cut_of r)) (Some (v, k)) = rw y.0 at e in
      let jv : j ≡ v = ap (λ (o : Option (ℕ × ℕ)). option_map_or (λ (p : ℕ × ℕ). p.0) o 0) is in
      let ck : cut_of r ≡ k = ap (λ (o : Option (ℕ × ℕ)). option_map_or (λ (p : ℕ × ℕ). p.1) o 0) is in
      let c = cut_inside r y.1 in
      let nle : leb u l ≡ false = grind (arith, nat_tests, y.1) in (
        0,
        omega arith,
        record {
          within = omega arith;
          open_box = rw nle refl;
          low_half = rw (y.0, ck) refl;
          high_half = rw (y.0, ck) refl;
          below = omega arith;
        },
      )
  | inr z ↦
      let rest : split_from (j + 1) (runs_in n lo hi) ≡ Some (v, k) = rw z.0 at e in
      let f = found n lo hi (j + 1) v k (omega arith) (omega arith) rest in (
        suc f.0,
        omega (arith, f.1),
        record {
          within = omega (arith, f.2.within);
          open_box = and_no (leb u l) (is_single (runs_in n lo hi)) f.2.open_box;
          low_half = rw z.0 (ap (λ rs. record { low = l; high = u } ∷ rs) f.2.low_half);
          high_half = rw z.0 (ap (λ rs. record { low = l; high = u } ∷ rs) f.2.high_half);
          below = f.2.below;
        },
      )
]

-- the same, counted from 0
pub found_first : (n : ℕ) (lo hi : List ℕ) (v k : ℕ) → n ≤ length lo → n ≤ length hi → ◌≡◌ {A = Option (ℕ × ℕ)} (Some (v, k)) (split_from 0 (runs_in n lo hi)) → Found n lo hi v k
found_first n lo hi v k p q e =
    let f = found n lo hi 0 v k p q (sym e) in
    let same : f.0 ≡ v = omega (arith, f.1) in
    subst (λ i. Found n lo hi i k) same f.2

pub not_found : (n : ℕ) (lo hi : List ℕ) (j : ℕ) → split_from j (runs_in n lo hi) ≡ None → is_single (runs_in n lo hi) ≡ true
not_found zero lo hi j e = refl
not_found (suc n) [] hi j e = refl
not_found (suc n) (l ∷ lo) [] j e = refl
not_found (suc n) (l ∷ lo) (u ∷ hi) j e = elim (lt_tells l u) [
  | inl y ↦ let is : ◌≡◌ {A = Option (ℕ × ℕ)} (Some (j, cut_of (record { low = l; high = u }))) None = rw y.0 at e in cc
  | inr z ↦
      let rest : split_from (j + 1) (runs_in n lo hi) ≡ None = rw z.0 at e in
      let le : leb u l ≡ true = grind (arith, nat_tests, z.1) in
      rw le (not_found n lo hi (j + 1) rest)
]

pub lows_runs : (n : ℕ) (lo hi : List ℕ) → n ≤ length lo → n ≤ length hi → lows (runs_in n lo hi) ≡ take n lo
lows_runs zero lo hi p q = refl
lows_runs (suc n) [] hi p q = absurd (omega arith)
lows_runs (suc n) (l ∷ lo) [] p q = absurd (omega arith)
lows_runs (suc n) (l ∷ lo) (u ∷ hi) p q = ap (λ xs. l ∷ xs) (lows_runs n lo hi (omega arith) (omega arith))

-- a search that begins at a later variable finds the same
pub split_past : (n i : ℕ) (lo hi : List ℕ) → n ≤ length lo → n ≤ length hi → i ≤ n → AreSingle i lo hi → split_from 0 (runs_in n lo hi) ≡ split_from i (runs_in (n - i) (drop i lo) (drop i hi))
split_past n zero lo hi p q h s = let e : n - 0 ≡ n = omega arith in rw e refl
split_past n (suc i) lo hi p q h s =
    let one : i + 1 ≡ suc i = omega arith in
    let single : get_or hi i 0 ≤ get_or lo i 0 = s i (omega arith) in
    let no : ltb (get_or lo i 0) (get_or hi i 0) ≡ false = grind (arith, nat_tests, single) in
    let before = split_past n i lo hi p q (omega arith) (λ k l. s k (omega arith)) in
    let here = split_more n i lo hi (omega arith) p q in
    before ∙ (rw no at here ∙ ap (λ j. split_from j (runs_in (n - j) (drop j lo) (drop j hi))) one)

pub split_here : (n i k : ℕ) (lo hi : List ℕ) → n ≤ length lo → n ≤ length hi → i < n → AreSingle i lo hi → get_or lo i 0 < get_or hi i 0 → k ≡ cut_of (record { low = get_or lo i 0; high = get_or hi i 0 }) → ◌≡◌ {A = Option (ℕ × ℕ)} (Some (i, k)) (split_from 0 (runs_in n lo hi))
split_here n i k lo hi p q h s lt e =
    let yes : ltb (get_or lo i 0) (get_or hi i 0) ≡ true = grind (arith, nat_tests, lt) in
    let here = split_more n i lo hi h p q in
    ap (λ (j : ℕ). Some (i, j)) e ∙ sym (split_past n i lo hi p q (omega arith) s ∙ rw yes at here)

pub split_none : (n : ℕ) (lo hi : List ℕ) → n ≤ length lo → n ≤ length hi → AreSingle n lo hi → ◌≡◌ {A = Option (ℕ × ℕ)} None (split_from 0 (runs_in n lo hi))
split_none n lo hi p q s =
    let e : n - n ≡ 0 = omega arith in
    sym (split_past n n lo hi p q (omega arith) s ∙ rw e refl)

pub single_more : (i : ℕ) (lo hi : List ℕ) → AreSingle i lo hi → get_or hi i 0 ≤ get_or lo i 0 → AreSingle (i + 1) lo hi
single_more i lo hi s h = below_more _ _ s h

-- what is written at a variable leaves those before it
pub single_low : (i x : ℕ) (lo hi : List ℕ) → AreSingle i lo hi → AreSingle i (set lo i x) hi
single_low i x lo hi s k l = let ne : k ≡ i → ⊥ = λ e. omega arith in rw (get_or-set_other lo i k x 0 ne) (s k l)

pub single_high : (i x : ℕ) (lo hi : List ℕ) → AreSingle i lo hi → AreSingle i lo (set hi i x)
single_high i x lo hi s k l = let ne : k ≡ i → ⊥ = λ e. omega arith in rw (get_or-set_other hi i k x 0 ne) (s k l)

-- the highest position of a box's run is one of the variable
pub box_high : (vs : List VarShape) (lo hi : List ℕ) (v : ℕ) → IsBox vs (runs_in (length vs) lo hi) → v < length vs → get_or hi v 0 < (get_or vs v nothing).size
box_high [] lo hi v b h = absurd (omega arith)
box_high (x ∷ vs) [] hi v b h = absurd b
box_high (x ∷ vs) (l ∷ lo) [] v b h = absurd b
box_high (x ∷ vs) (l ∷ lo) (u ∷ hi) zero b h = b.1
box_high (x ∷ vs) (l ∷ lo) (u ∷ hi) (suc v) b h = box_high vs lo hi v b.2 (omega arith)
