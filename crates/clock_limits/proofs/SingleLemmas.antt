-- On a box with one choice, what refutes it is what the choice breaks.
use Rattle.std.proofs.Common.{◌≡◌, ℕ, ◌+◌, ◌-◌, ◌*◌, ◌<◌, Bool, true, false, ◌||◌, cond, nat_eq, Option, Some, None, List, [], ◌∷◌, length, drop, get_or, length-take, length-drop, refl, sym, subst, ap, ◌∙◌, arith}
use Rattle.std.specs.List.{list_any}
use Rattle.res_base.specs.Fraction.{Fraction, IsAtMost, at_most, whole, over}
use Rattle.res_base.specs.Lists.{Member}
use Rattle.res_base.proofs.ListLemmas.{member_one}
use Rattle.res_model.specs.ClockValues.{has_over, hsi, source_number}
use Rattle.res_model.specs.declared.clock.ClockBox.{ClockBox}
use Rattle.res_model.specs.declared.clock.ClockChoice.{ClockChoice}
use Rattle.res_model.specs.declared.clock.Facts.{Facts}
use Rattle.res_model.specs.declared.clock.Range.{Range}
use Rattle.res_model.specs.declared.clock.Src.{Src}
use Rattle.res_model.specs.declared.clock.Src.TheVariants.{Hsi, Hse, Pll}
use Rattle.res_model.specs.declared.table.TableParts.{TableParts}
use Rattle.res_model.specs.Clock.{output, is_hse, is_pll, pll_used, hse_used, pll_input, vco_in_of, vco_of, system_output_of, clk48_of, sysclk_of, hclk_of, pclk1_of, pclk2_of}
use Rattle.res_model.specs.Limits.{where_so, are_within, is_equal, is_as_wished, is_fed, mhz_48, limits_of, first_broken}
use Rattle.res_model.specs.Power.{flash_rows, is_covered_by, is_covered, speeds_at, scale_limit, is_within_max}
use Rattle.clock_limits.specs.Ranges.{IsClockBox, IsOnePlace, IsRun, Allowed, allowed, IsIn, run_of, values_at, exactly, divided, multiplied, output_range, sure_pll, sure_hse, sure_over, may_pll, overlaps, has, has_wish, narrowed, input_range, vco_in_range, vco_range, system_output_range, clk48_range, sysclk_range, hclk_reach, hclk_range, pclk1_range, pclk2_range, limits_over}
use Rattle.std.proofs.lemmas.Nat.{mul-le}
use Rattle.clock_limits.specs.Fair.{IsSpread}
use Rattle.clock_limits.proofs.SpreadLemmas.{least_each}
use Rattle.clock_limits.specs.Laws.{OneChoiceIsExact}
use Rattle.clock_limits.proofs.FairLemmas.{box_is_fair}
use Rattle.clock_limits.proofs.FractionLemmas.{fact_of, same_is_at_most, over_mono, from_below, to_above, and_left, and_right, same_test, or_false, and_true}
use Rattle.clock_limits.proofs.RangeLemmas.{ArePositive, nodes_positive}

-- ---- the values of one choice
abbrev values_of : ClockChoice → Allowed
values_of c = record {
  src = source_number c.src ∷ [];
  psrc = source_number c.psrc ∷ [];
  hpre = c.hpre ∷ [];
  p = c.p ∷ [];
  m = c.m ∷ [];
  n = c.n ∷ [];
  q = c.q ∷ [];
  ppre1 = c.ppre1 ∷ [];
  ppre2 = c.ppre2 ∷ [];
  vos = c.vos ∷ [];
}

one_value : (v : ℕ) (vs : List ℕ) → length vs ≡ 1 → Member v vs → vs ≡ v ∷ []
one_value v [] long among = absurd among
one_value v (w ∷ []) long among = ap (λ (n : ℕ). n ∷ []) (sym (member_one v w among))
one_value v (w ∷ x ∷ xs) long among = absurd (omega arith)

run_long : (values : List (List ℕ)) (b : ClockBox) (k : ℕ) → IsRun values b k → get_or b.lo k 0 ≡ get_or b.hi k 0 → length (run_of values b k) ≡ 1
unfolding run_of
run_long values b k is one =
    let low = get_or b.lo k 0 in
    let high = get_or b.hi k 0 in
    let vs = values_at values k in
    let inside = is.inside in
    omega (arith, length-take (high + 1 - low) (drop low vs), length-drop low vs)

allowed_one : (values : List (List ℕ)) (b : ClockBox) (c : ClockChoice) → IsClockBox values b → IsOnePlace b → IsIn c values b → allowed values b ≡ values_of c
allowed_one values b c is one among =
    let run : (k : ℕ) → k < 10 → length (run_of values b k) ≡ 1 = λ k below. run_long values b k (is.runs k below) (one k below) in
    same_values (run_of values b 0) (run_of values b 1) (run_of values b 2) (run_of values b 3) (run_of values b 4) (run_of values b 5) (run_of values b 6) (run_of values b 7) (run_of values b 8) (run_of values b 9)
    (source_number c.src ∷ []) (source_number c.psrc ∷ []) (c.hpre ∷ []) (c.p ∷ []) (c.m ∷ []) (c.n ∷ []) (c.q ∷ []) (c.ppre1 ∷ []) (c.ppre2 ∷ []) (c.vos ∷ [])
    (one_value (source_number c.src) (run_of values b 0) (run 0 (omega arith)) among.src)
    (one_value (source_number c.psrc) (run_of values b 1) (run 1 (omega arith)) among.psrc)
    (one_value c.hpre (run_of values b 2) (run 2 (omega arith)) among.hpre)
    (one_value c.p (run_of values b 3) (run 3 (omega arith)) among.p)
    (one_value c.m (run_of values b 4) (run 4 (omega arith)) among.m)
    (one_value c.n (run_of values b 5) (run 5 (omega arith)) among.n)
    (one_value c.q (run_of values b 6) (run 6 (omega arith)) among.q)
    (one_value c.ppre1 (run_of values b 7) (run 7 (omega arith)) among.ppre1)
    (one_value c.ppre2 (run_of values b 8) (run 8 (omega arith)) among.ppre2)
    (one_value c.vos (run_of values b 9) (run 9 (omega arith)) among.vos)
  where
    same_values : (a b c d e f g h i j a' b' c' d' e' f' g' h' i' j' : List ℕ) → a ≡ a' → b ≡ b' → c ≡ c' → d ≡ d' → e ≡ e' → f ≡ f' → g ≡ g' → h ≡ h' → i ≡ i' → j ≡ j' → ◌≡◌ {A = Allowed} (record { src = a; psrc = b; hpre = c; p = d; m = e; n = f; q = g; ppre1 = h; ppre2 = i; vos = j }) (record { src = a'; psrc = b'; hpre = c'; p = d'; m = e'; n = f'; q = g'; ppre1 = h'; ppre2 = i'; vos = j' })
    same_values a b c d e f g h i j a' b' c' d' e' f' g' h' i' j' p q r s t u v w x y = cc

-- ---- the ranges of one choice are its nodes
output_one : (hse : ℕ) (x : Fraction) (s : Src) → output_range hse (exactly x) (source_number s) ≡ exactly (output hse x s)
output_one hse x Hsi = refl
output_one hse x Hse = refl
output_one hse x Pll = refl

input_one : (f : Facts) (c : ClockChoice) → input_range f (values_of c) ≡ exactly (pll_input f c)
input_one f c = output_one f.hse_hz (whole hsi) c.psrc

vco_in_one : (f : Facts) (c : ClockChoice) → vco_in_range f (values_of c) ≡ exactly (vco_in_of f c)
vco_in_one f c = ap (λ (r : Range). divided r (c.m ∷ [])) (input_one f c)

vco_one : (f : Facts) (c : ClockChoice) → vco_range f (values_of c) ≡ exactly (vco_of f c)
vco_one f c = ap (λ (r : Range). multiplied r (c.n ∷ [])) (vco_in_one f c)

system_one : (f : Facts) (c : ClockChoice) → system_output_range f (values_of c) ≡ exactly (system_output_of f c)
system_one f c = ap (λ (r : Range). divided r (c.p ∷ [])) (vco_one f c)

clk48_one : (f : Facts) (c : ClockChoice) → clk48_range f (values_of c) ≡ exactly (clk48_of f c)
clk48_one f c = ap (λ (r : Range). divided r (c.q ∷ [])) (vco_one f c)

sysclk_one : (f : Facts) (c : ClockChoice) → sysclk_range f (values_of c) ≡ exactly (sysclk_of f c)
sysclk_one f c = ap (λ (r : Range). output_range f.hse_hz r (source_number c.src)) (system_one f c) ∙ output_one f.hse_hz (system_output_of f c) c.src

reach_one : (f : Facts) (c : ClockChoice) → hclk_reach f (values_of c) ≡ exactly (hclk_of f c)
reach_one f c = ap (λ (r : Range). divided r (c.hpre ∷ [])) (sysclk_one f c)

-- ---- a wish that a node has is the same number
pub record IsSame (r : Range) (x : Fraction) : Type 0 where
  pub least_below : IsAtMost r.least x
  pub least_above : IsAtMost x r.least
  pub most_below : IsAtMost r.most x
  pub most_above : IsAtMost x r.most
  pub least_some : 0 < r.least.den
  pub most_some : 0 < r.most.den

narrowed_one : (wish : ℕ) (x : Fraction) (t : Bool) → 0 < x.den → has (exactly x) (whole wish) ≡ t → IsSame (cond t (exactly (whole wish)) (exactly x)) x
narrowed_one wish x true p e =
    let left = fact_of x (whole wish) (and_left (at_most x (whole wish)) (at_most (whole wish) x) e) in
    let right = fact_of (whole wish) x (and_right (at_most x (whole wish)) (at_most (whole wish) x) e) in
    record { least_below = right; least_above = left; most_below = right; most_above = left; least_some = omega arith; most_some = omega arith }
narrowed_one wish x false p e =
    record { least_below = same_is_at_most x; least_above = same_is_at_most x; most_below = same_is_at_most x; most_above = same_is_at_most x; least_some = p; most_some = p }

narrowed_same : (wish : Option ℕ) (x : Fraction) → 0 < x.den → IsSame (narrowed wish (exactly x)) x
narrowed_same None x p =
    record { least_below = same_is_at_most x; least_above = same_is_at_most x; most_below = same_is_at_most x; most_above = same_is_at_most x; least_some = p; most_some = p }
narrowed_same (Some wish) x p = narrowed_one wish x (has (exactly x) (whole wish)) p refl

divided_same : (r : Range) (x : Fraction) (n : ℕ) → 0 < (over r.least n).den → 0 < (over r.most n).den → IsSame r x → IsSame (divided r (n ∷ [])) (over x n)
divided_same r x n p q s = record {
  least_below = over_mono r.least x n n s.least_below (omega arith);
  least_above = over_mono x r.least n n s.least_above (omega arith);
  most_below = over_mono r.most x n n s.most_below (omega arith);
  most_above = over_mono x r.most n n s.most_above (omega arith);
  least_some = p;
  most_some = q;
}

-- ---- tests at the same number
least_test : (r : Range) (x y : Fraction) → 0 < x.den → IsSame r x → at_most r.least y ≡ at_most x y
least_test r x y p s = same_test (at_most r.least y) (at_most x y) (λ e. from_below x r.least y s.least_some s.least_above e) (λ e. from_below r.least x y p s.least_below e)

most_test : (r : Range) (x y : Fraction) → 0 < x.den → IsSame r x → at_most y r.most ≡ at_most y x
most_test r x y p s = same_test (at_most y r.most) (at_most y x) (λ e. to_above y r.most x s.most_some s.most_below e) (λ e. to_above y x r.most p s.most_above e)

wish_test : (wish : Option ℕ) (r : Range) (x : Fraction) → 0 < x.den → IsSame r x → has_wish wish r ≡ is_as_wished wish x
wish_test None r x p s = refl
wish_test (Some wish) r x p s = cc (least_test r x (whole wish) p s, most_test r x (whole wish) p s)

max_test : (max : Option ℕ) (r : Range) (x : Fraction) → 0 < x.den → IsSame r x → is_within_max r.least max ≡ is_within_max x max
max_test None r x p s = refl
max_test (Some max) r x p s = least_test r x (whole max) p s

rows_test : (rows : List ℕ) (r : Range) (x : Fraction) → 0 < x.den → IsSame r x → list_any (is_covered_by r.least) rows ≡ list_any (is_covered_by x) rows
rows_test [] r x p s = refl
rows_test (row ∷ rows) r x p s = cc (least_test r x (whole row) p s, rows_test rows r x p s)

-- ---- what is sure of one choice is so
pll_code : (s : Src) → nat_eq (source_number s) 2 ≡ is_pll s
pll_code Hsi = refl
pll_code Hse = refl
pll_code Pll = refl

hse_code : (s : Src) → nat_eq (source_number s) 1 ≡ is_hse s
hse_code Hsi = refl
hse_code Hse = refl
hse_code Pll = refl

sure_pll_one : (f : Facts) (c : ClockChoice) → sure_pll f (values_of c) ≡ pll_used f c
sure_pll_one f c = cc (and_true (nat_eq (source_number c.src) 2), pll_code c.src)

sure_hse_one : (f : Facts) (c : ClockChoice) → sure_hse f (values_of c) ≡ hse_used f c
sure_hse_one f c = cc (and_true (nat_eq (source_number c.src) 1), hse_code c.src, and_true (nat_eq (source_number c.psrc) 1), hse_code c.psrc, sure_pll_one f c)

sure_over_one : (c : ClockChoice) → sure_over (values_of c) ≡ has_over c.vos
sure_over_one c = and_true (has_over c.vos)

may_pll_one : (f : Facts) (c : ClockChoice) → may_pll f (values_of c) ≡ pll_used f c
may_pll_one f c = cc (or_false (nat_eq (source_number c.src) 2), pll_code c.src)

-- ---- all limits
same_limits : (a b c d e f g h i j k l m n o a' b' c' d' e' f' g' h' i' j' k' l' m' n' o' : Bool) → a ≡ a' → b ≡ b' → c ≡ c' → d ≡ d' → e ≡ e' → f ≡ f' → g ≡ g' → h ≡ h' → i ≡ i' → j ≡ j' → k ≡ k' → l ≡ l' → m ≡ m' → n ≡ n' → o ≡ o' → ◌≡◌ {A = List (ℕ × Bool)} ((3, a) ∷ (4, b) ∷ (5, c) ∷ (6, d) ∷ (7, e) ∷ (8, f) ∷ (9, g) ∷ (10, h) ∷ (11, i) ∷ (12, j) ∷ (13, k) ∷ (14, l) ∷ (15, m) ∷ (16, n) ∷ (17, o) ∷ []) ((3, a') ∷ (4, b') ∷ (5, c') ∷ (6, d') ∷ (7, e') ∷ (8, f') ∷ (9, g') ∷ (10, h') ∷ (11, i') ∷ (12, j') ∷ (13, k') ∷ (14, l') ∷ (15, m') ∷ (16, n') ∷ (17, o') ∷ [])
same_limits a b c d e f g h i j k l m n o a' b' c' d' e' f' g' h' i' j' k' l' m' n' o' p q r s t u v w x y z o1 o2 o3 o4 = cc

product_some : (a b : ℕ) → 0 < a → 0 < b → 0 < a * b
product_some a b p q = omega (arith, mul-le 1 1 a b p q)

limits_one : (t : TableParts) (f : Facts) (c : ClockChoice) → ArePositive f c → 0 < c.ppre1 → 0 < c.ppre2 → limits_over t f (values_of c) ≡ limits_of t f c
unfolding limits_over limits_of
limits_one t f c p d1 d2 =
    let a = values_of c in
    let same : IsSame (hclk_range f a) (hclk_of f c) = subst (λ (r : Range). IsSame (narrowed f.hclk r) (hclk_of f c)) (sym (reach_one f c)) (narrowed_same f.hclk (hclk_of f c) p.hclk) in
    let same1 = divided_same (hclk_range f a) (hclk_of f c) c.ppre1 (product_some (hclk_range f a).least.den c.ppre1 same.least_some d1) (product_some (hclk_range f a).most.den c.ppre1 same.most_some d1) same in
    let same2 = divided_same (hclk_range f a) (hclk_of f c) c.ppre2 (product_some (hclk_range f a).least.den c.ppre2 same.least_some d2) (product_some (hclk_range f a).most.den c.ppre2 same.most_some d2) same in
    same_limits
    (where_so (sure_hse f a) (is_fed t f))
    (where_so (sure_pll f a) (overlaps t.limits.vco_in (vco_in_range f a)))
    (where_so (sure_pll f a) (overlaps t.limits.vco (vco_range f a)))
    (at_most (sysclk_range f a).least (whole (speeds_at t c.vos).sysclk) || false)
    (is_within_max (hclk_range f a).least (scale_limit t c.vos) || false)
    (at_most (pclk1_range f a).least (whole (speeds_at t c.vos).pclk1) || false)
    (at_most (pclk2_range f a).least (whole (speeds_at t c.vos).pclk2) || false)
    (where_so f.exact48 (has (clk48_range f a) (whole mhz_48)))
    (where_so f.most48 (at_most (clk48_range f a).least (whole mhz_48)))
    (at_most (whole f.floor) (hclk_range f a).most)
    (is_covered t f.vdd (hclk_range f a).least)
    (has_wish f.hclk (hclk_reach f a))
    (has_wish f.pclk1 (pclk1_range f a))
    (has_wish f.pclk2 (pclk2_range f a))
    (where_so (sure_over a) (may_pll f a))
    (where_so (hse_used f c) (is_fed t f))
    (where_so (pll_used f c) (are_within t.limits.vco_in (vco_in_of f c)))
    (where_so (pll_used f c) (are_within t.limits.vco (vco_of f c)))
    (at_most (sysclk_of f c) (whole (speeds_at t c.vos).sysclk))
    (is_within_max (hclk_of f c) (scale_limit t c.vos))
    (at_most (pclk1_of f c) (whole (speeds_at t c.vos).pclk1))
    (at_most (pclk2_of f c) (whole (speeds_at t c.vos).pclk2))
    (where_so f.exact48 (is_equal (clk48_of f c) (whole mhz_48)))
    (where_so f.most48 (at_most (clk48_of f c) (whole mhz_48)))
    (at_most (whole f.floor) (hclk_of f c))
    (is_covered t f.vdd (hclk_of f c))
    (is_as_wished f.hclk (hclk_of f c))
    (is_as_wished f.pclk1 (pclk1_of f c))
    (is_as_wished f.pclk2 (pclk2_of f c))
    (where_so (has_over c.vos) (pll_used f c))
    (ap (λ (u : Bool). where_so u (is_fed t f)) (sure_hse_one f c))
    (ap (λ (u : Bool). where_so u (overlaps t.limits.vco_in (vco_in_range f a))) (sure_pll_one f c) ∙ ap (λ (r : Range). where_so (pll_used f c) (overlaps t.limits.vco_in r)) (vco_in_one f c))
    (ap (λ (u : Bool). where_so u (overlaps t.limits.vco (vco_range f a))) (sure_pll_one f c) ∙ ap (λ (r : Range). where_so (pll_used f c) (overlaps t.limits.vco r)) (vco_one f c))
    (or_false (at_most (sysclk_range f a).least (whole (speeds_at t c.vos).sysclk)) ∙ ap (λ (r : Range). at_most r.least (whole (speeds_at t c.vos).sysclk)) (sysclk_one f c))
    (or_false (is_within_max (hclk_range f a).least (scale_limit t c.vos)) ∙ max_test (scale_limit t c.vos) (hclk_range f a) (hclk_of f c) p.hclk same)
    (or_false (at_most (pclk1_range f a).least (whole (speeds_at t c.vos).pclk1)) ∙ least_test (pclk1_range f a) (pclk1_of f c) (whole (speeds_at t c.vos).pclk1) p.pclk1 same1)
    (or_false (at_most (pclk2_range f a).least (whole (speeds_at t c.vos).pclk2)) ∙ least_test (pclk2_range f a) (pclk2_of f c) (whole (speeds_at t c.vos).pclk2) p.pclk2 same2)
    (ap (λ (r : Range). where_so f.exact48 (has r (whole mhz_48))) (clk48_one f c))
    (ap (λ (r : Range). where_so f.most48 (at_most r.least (whole mhz_48))) (clk48_one f c))
    (most_test (hclk_range f a) (hclk_of f c) (whole f.floor) p.hclk same)
    (rows_test (flash_rows t f.vdd) (hclk_range f a) (hclk_of f c) p.hclk same)
    (ap (λ (r : Range). has_wish f.hclk r) (reach_one f c) ∙ wish_test f.hclk (exactly (hclk_of f c)) (hclk_of f c) p.hclk (narrowed_same None (hclk_of f c) p.hclk))
    (wish_test f.pclk1 (pclk1_range f a) (pclk1_of f c) p.pclk1 same1)
    (wish_test f.pclk2 (pclk2_range f a) (pclk2_of f c) p.pclk2 same2)
    (ap (λ (u : Bool). where_so u (may_pll f a)) (sure_over_one c) ∙ ap (λ (u : Bool). where_so (has_over c.vos) u) (may_pll_one f c))

pub one_choice_is_exact : OneChoiceIsExact
one_choice_is_exact t f values b in_range is_box one c is =
    let fair = box_is_fair values b is_box in_range in
    let a = allowed values b in
    let p = nodes_positive f a c fair is in
    ap (λ (x : Allowed). first_broken (limits_over t f x)) (allowed_one values b c is_box one is)
    ∙ ap first_broken (limits_one t f c p (some_value 16 a.ppre1 c.ppre1 fair.ppre1 is.ppre1) (some_value 16 a.ppre2 c.ppre2 fair.ppre2 is.ppre2))
  where
    some_value : (high : ℕ) (ns : List ℕ) (n : ℕ) → IsSpread 1 high ns → Member n ns → 0 < n
    some_value high ns n s m = omega (arith, s.least.0, least_each ns n m)
