-- What meets the limits under a wish for HCLK meets them without it, and a wish for the clock of a bus is one for HCLK: limit by
-- limit.
use Rattle.std.proofs.Common.{◌≡◌, ◌⊎◌, inl, inr, ◌==◌, ◌||◌, ◌&&◌, ◌*◌, ◌^◌, ◌<◌, ℕ, List, [], ◌∷◌, Bool, true, false, Option, Some, None, refl, sym, subst, ap, ◌∙◌, arith}
use Rattle.std.proofs.lemmas.Bool.Decides.{nat_tests}
use Rattle.std.proofs.Math.Nat.{mul_assoc, mul_comm}
use Rattle.std.specs.Prelude.{is_none, nat_le, nat_lt}
use Rattle.clock_limits.proofs.LeastLemmas.{broken_is_least}
use Rattle.clock_limits.proofs.FractionLemmas.{and_left, and_right, both}
use Rattle.res_base.specs.Fraction.{Fraction, over, whole}
use Rattle.res_model.specs.Clock.{hclk_of, pclk1_of, pclk2_of}
use Rattle.res_model.specs.Limits.{broken_limit, first_broken, is_as_wished, is_equal, limits_of, meets_limit}
use Rattle.res_model.specs.Placement.{fits, uses_at}
use Rattle.res_model.specs.declared.clock.ClockChoice.{ClockChoice}
use Rattle.res_model.specs.declared.clock.Facts.{Facts}
use Rattle.res_model.specs.declared.table.TableParts.{TableParts}
use Rattle.problem.specs.declared.parts.ProblemParts.{ProblemParts}
use Rattle.problem.specs.ClockValues.{clock_at, clock_value}
use Rattle.problem.specs.Meets.{meets, places_of}
use Rattle.problem.specs.Wishes.{bus_wish, low_wish, wish_of_bus, wish_unless, with_hclk}
use Rattle.problem.proofs.MeetsLemmas.{none_broken, part_is, whole_is}

-- where a limit of the first list is met, that of the second is
abbrev pub Allow : List (ℕ × Bool) → List (ℕ × Bool) → Type 0
Allow [] [] = Unit {0}
Allow [] (y ∷ ys) = ⊥
Allow (x ∷ xs) [] = ⊥
Allow (x ∷ xs) (y ∷ ys) = (x.1 ≡ true → y.1 ≡ true) × Allow xs ys

head_met : (b : Bool) (k : ℕ) (xs : List (ℕ × Bool)) → is_none (first_broken ((k, b) ∷ xs)) ≡ true → (b ≡ true) × (is_none (first_broken xs) ≡ true)
head_met true k xs e = (refl, e)
head_met false k xs e = absurd cc

met_head : (b : Bool) (k : ℕ) (xs : List (ℕ × Bool)) → b ≡ true → is_none (first_broken xs) ≡ true → is_none (first_broken ((k, b) ∷ xs)) ≡ true
met_head true k xs b e = e
met_head false k xs b e = absurd cc

still_met : (xs ys : List (ℕ × Bool)) → Allow xs ys → is_none (first_broken xs) ≡ true → is_none (first_broken ys) ≡ true
still_met [] [] a e = refl
still_met [] (y ∷ ys) a e = absurd a
still_met (x ∷ xs) [] a e = absurd a
still_met (x ∷ xs) (y ∷ ys) a e =
    let h = head_met x.1 x.0 xs e in
    met_head y.1 y.0 ys (a.0 h.0) (still_met xs ys a.1 h.1)

module _ (t : TableParts) (f : Facts) (hclk : Option ℕ) (c : ClockChoice) (none : f.hclk ≡ None) where
  wished : Facts
  wished = record f { hclk = hclk }

  no_wish : (x : Fraction) → is_as_wished f.hclk x ≡ true
  no_wish x = ap (λ wish. is_as_wished wish x) none

  allowed : Allow (limits_of t (record f { hclk = hclk }) c) (limits_of t f c)
  unfolding limits_of
  allowed =
      ((λ e. e), ((λ e. e), ((λ e. e), ((λ e. e), ((λ e. e), ((λ e. e), ((λ e. e), ((λ e. e), ((λ e. e), ((λ e. e), ((λ e. e), ((λ e. no_wish (hclk_of f c)), ((λ e. e), ((λ e. e), ((λ e. e), tt)))))))))))))))

  pub clocks_allowed : is_none (broken_limit t (record f { hclk = hclk }) c) ≡ true → is_none (broken_limit t f c) ≡ true
  clocks_allowed e = still_met (limits_of t (record f { hclk = hclk }) c) (limits_of t f c) allowed e

module _ (p : ProblemParts) (hclk : Option ℕ) (at : List ℕ) (none : p.facts.hclk ≡ None) where
  pins : Bool
  pins = fits p.tables (uses_at p.uses (places_of p at))

  wished_clocks : Bool
  wished_clocks = p.first == 0 || is_none (broken_limit p.tables (record p.facts { hclk = hclk }) (clock_at p.clock at))

  clocks : Bool
  clocks = p.first == 0 || is_none (broken_limit p.tables p.facts (clock_at p.clock at))

  pub wish_allows_nothing : meets (with_hclk hclk p) at ≡ true → meets p at ≡ true
  unfolding meets pins wished_clocks clocks
  wish_allows_nothing e =
      both pins clocks (and_left pins wished_clocks e)
      (part_is p.first (is_none (broken_limit p.tables p.facts (clock_at p.clock at)))
      (λ n. clocks_allowed p.tables p.facts hclk (clock_at p.clock at) none
      (whole_is p.first (is_none (broken_limit p.tables (record p.facts { hclk = hclk }) (clock_at p.clock at))) (and_right pins wished_clocks e) n)))

-- ---- a wish for the clock of a bus
-- x over d is w where x is w times d
scaled : (x : Fraction) (w d : ℕ) → is_equal (over x d) (whole w) ≡ true → is_equal x (whole (w * d)) ≡ true
scaled x w d e =
    let same : w * (x.den * d) ≡ w * d * x.den = ap (λ n. w * n) (mul_comm x.den d) ∙ sym (mul_assoc w d x.den) in
    subst (λ n. (nat_le (x.num * 1) n && nat_le n (x.num * 1)) ≡ true) same e

wished_as : (wanted : Option ℕ) (w d : ℕ) (x : Fraction) → wanted ≡ Some w → is_as_wished wanted (over x d) ≡ true → is_as_wished (Some (w * d)) x ≡ true
wished_as wanted w d x e m = scaled x w d (subst (λ o. is_as_wished o (over x d) ≡ true) e m)

module _ (t : TableParts) (f : Facts) (wish : ℕ) (c : ClockChoice) (met : is_none (broken_limit t f c) ≡ true) where
  all : (k : ℕ) → meets_limit t f c k ≡ true
  all k = none_broken (meets_limit t f c) (broken_limit t f c) (broken_is_least t f c) met k

  pclk1_met : is_as_wished f.pclk1 (pclk1_of f c) ≡ true
  unfolding limits_of
  pclk1_met = all 15

  pclk2_met : is_as_wished f.pclk2 (pclk2_of f c) ≡ true
  unfolding limits_of
  pclk2_met = all 16

  fixed : (hclk : ℕ) → is_as_wished (Some hclk) (hclk_of f c) ≡ true → Allow (limits_of t f c) (limits_of t (record f { hclk = Some hclk }) c)
  unfolding limits_of
  fixed hclk h =
      ((λ e. e), ((λ e. e), ((λ e. e), ((λ e. e), ((λ e. e), ((λ e. e), ((λ e. e), ((λ e. e), ((λ e. e), ((λ e. e), ((λ e. e), ((λ e. h), ((λ e. e), ((λ e. e), ((λ e. e), tt)))))))))))))))

  pub by_pclk1 : f.pclk1 ≡ Some wish → is_none (broken_limit t (record f { hclk = Some (wish * c.ppre1) }) c) ≡ true
  by_pclk1 e = still_met (limits_of t f c) (limits_of t (record f { hclk = Some (wish * c.ppre1) }) c) (fixed (wish * c.ppre1) (wished_as f.pclk1 wish c.ppre1 (hclk_of f c) e pclk1_met)) met

  pub by_pclk2 : f.pclk2 ≡ Some wish → is_none (broken_limit t (record f { hclk = Some (wish * c.ppre2) }) c) ≡ true
  by_pclk2 e = still_met (limits_of t f c) (limits_of t (record f { hclk = Some (wish * c.ppre2) }) c) (fixed (wish * c.ppre2) (wished_as f.pclk2 wish c.ppre2 (hclk_of f c) e pclk2_met)) met

-- which wish it is
low_is : (w k wish variable : ℕ) → low_wish w k ≡ Some (wish, variable) → (w ≡ wish) × (k ≡ variable)
low_is w k wish variable e = case (nat_lt w (2 ^ 48)) refl
  where
    case : (b : Bool) → nat_lt w (2 ^ 48) ≡ b → (w ≡ wish) × (k ≡ variable)
    case true q = let x : ◌≡◌ {A = Option (ℕ × ℕ)} (Some (w, k)) (Some (wish, variable)) = rw q at e in let same : ◌≡◌ {A = ℕ × ℕ} (w, k) (wish, variable) = cc in (ap (λ r. r.0) same, ap (λ r. r.1) same)
    case false q = let x : ◌≡◌ {A = Option (ℕ × ℕ)} None (Some (wish, variable)) = rw q at e in absurd cc

module _ (wish variable : ℕ) where
  abbrev IsOf : Option ℕ → Option ℕ → Type 0
  IsOf pclk1 pclk2 = ((pclk1 ≡ Some wish) × (variable ≡ 7)) ⊎ ((pclk2 ≡ Some wish) × (variable ≡ 8))

  of_bus : (pclk1 pclk2 : Option ℕ) → wish_of_bus pclk1 pclk2 ≡ Some (wish, variable) → IsOf pclk1 pclk2
  of_bus (Some w) pclk2 e = let s = low_is w 7 wish variable e in inl (ap Some s.0, sym s.1)
  of_bus None (Some w) e = let s = low_is w 8 wish variable e in inr (ap Some s.0, sym s.1)
  of_bus None None e = absurd cc

  of_facts : (hclk pclk1 pclk2 : Option ℕ) → wish_unless hclk (wish_of_bus pclk1 pclk2) ≡ Some (wish, variable) → IsOf pclk1 pclk2
  of_facts None pclk1 pclk2 e = of_bus pclk1 pclk2 e
  of_facts (Some h) pclk1 pclk2 e = absurd cc

module _ (p : ProblemParts) (wish variable : ℕ) (at : List ℕ) (is : bus_wish p.facts ≡ Some (wish, variable)) where
  abbrev pub hertz : ℕ
  hertz = wish * clock_value p.clock at variable

  all_pins : Bool
  all_pins = fits p.tables (uses_at p.uses (places_of p at))

  free_clocks : Bool
  free_clocks = p.first == 0 || is_none (broken_limit p.tables p.facts (clock_at p.clock at))

  fixed_clocks : Bool
  fixed_clocks = p.first == 0 || is_none (broken_limit p.tables (record p.facts { hclk = Some hertz }) (clock_at p.clock at))

  by_clocks : is_none (broken_limit p.tables p.facts (clock_at p.clock at)) ≡ true → is_none (broken_limit p.tables (record p.facts { hclk = Some hertz }) (clock_at p.clock at)) ≡ true
  unfolding clock_at
  by_clocks met = elim (of_facts wish variable p.facts.hclk p.facts.pclk1 p.facts.pclk2 is) [
    | inl b ↦ subst (λ k. is_none (broken_limit p.tables (record p.facts { hclk = Some (wish * clock_value p.clock at k) }) (clock_at p.clock at)) ≡ true) (sym b.1) (by_pclk1 p.tables p.facts wish (clock_at p.clock at) met b.0)
    | inr b ↦ subst (λ k. is_none (broken_limit p.tables (record p.facts { hclk = Some (wish * clock_value p.clock at k) }) (clock_at p.clock at)) ≡ true) (sym b.1) (by_pclk2 p.tables p.facts wish (clock_at p.clock at) met b.0)
  ]

  pub bus_wish_fixes : meets p at ≡ true → meets (with_hclk (Some hertz) p) at ≡ true
  unfolding meets all_pins free_clocks fixed_clocks
  bus_wish_fixes e =
      both all_pins fixed_clocks (and_left all_pins free_clocks e)
      (part_is p.first (is_none (broken_limit p.tables (record p.facts { hclk = Some hertz }) (clock_at p.clock at)))
      (λ n. by_clocks (whole_is p.first (is_none (broken_limit p.tables p.facts (clock_at p.clock at))) (and_right all_pins free_clocks e) n)))

-- the divider of a bus is one of the ten clock variables
pub variable_is_clock : (f : Facts) (wish variable : ℕ) → bus_wish f ≡ Some (wish, variable) → variable < 10
variable_is_clock f wish variable e = elim (of_facts wish variable f.hclk f.pclk1 f.pclk2 e) [
  | inl b ↦ omega (arith, b.1)
  | inr b ↦ omega (arith, b.1)
]

low_is_low : (w k wish variable : ℕ) → low_wish w k ≡ Some (wish, variable) → w < 2 ^ 48
low_is_low w k wish variable e = case (nat_lt w (2 ^ 48)) refl
  where
    case : (b : Bool) → nat_lt w (2 ^ 48) ≡ b → w < 2 ^ 48
    case true q = grind (arith, nat_tests, q)
    case false q = let x : ◌≡◌ {A = Option (ℕ × ℕ)} None (Some (wish, variable)) = rw q at e in absurd cc

low_bus : (wish variable : ℕ) (pclk1 pclk2 : Option ℕ) → wish_of_bus pclk1 pclk2 ≡ Some (wish, variable) → wish < 2 ^ 48
low_bus wish variable (Some w) pclk2 e = let l = low_is_low w 7 wish variable e in let s = low_is w 7 wish variable e in omega (arith, l, s.0)
low_bus wish variable None (Some w) e = let l = low_is_low w 8 wish variable e in let s = low_is w 8 wish variable e in omega (arith, l, s.0)
low_bus wish variable None None e = absurd cc

unless_low : (wish variable : ℕ) (hclk pclk1 pclk2 : Option ℕ) → wish_unless hclk (wish_of_bus pclk1 pclk2) ≡ Some (wish, variable) → (wish < 2 ^ 48) × (hclk ≡ None)
unless_low wish variable None pclk1 pclk2 e = (low_bus wish variable pclk1 pclk2 e, refl)
unless_low wish variable (Some h) pclk1 pclk2 e = absurd cc

-- the wish is low, and there is none for HCLK
pub bus_wish_is_low : (f : Facts) (wish variable : ℕ) → bus_wish f ≡ Some (wish, variable) → (wish < 2 ^ 48) × (f.hclk ≡ None)
bus_wish_is_low f wish variable e = unless_low wish variable f.hclk f.pclk1 f.pclk2 e
