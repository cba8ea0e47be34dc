-- That the parts of the problem agree.
use Rattle.std.proofs.Common.{◌≡◌, ◌≢◌, ℕ, zero, suc, ◌<◌, ◌≤◌, ◌^◌, ◌++◌, List, [], ◌∷◌, length, take, drop, Bool, true, false, ◌&&◌, ◌||◌, not, cond, length-append, refl, sym, subst, ap, ◌∙◌, arith}
use Rattle.std.specs.Prelude.{find, IfSome, Option, Some, None, IsSomeAnd, MatchOption}
use Rattle.std.specs.List.{list_all, list_any}
use Rattle.std.specs.Str.{bytes_eq}
use Rattle.res_base.proofs.ListLemmas.{each_map}
use Rattle.res_base.specs.Lists.{Each}
use Rattle.choice_rank.specs.Choices.{HasPositions, HasSmallSizes, IsNarrow}
use Rattle.choice_rank.specs.declared.variable.VarShape.{VarShape}
use Rattle.pin_rules.specs.Sizes.{IsSized}
use Rattle.pin_rules.proofs.SizeLemmas as sizes
use Rattle.res_model.specs.Clock.{AreFacts, facts_of}
use Rattle.res_model.specs.Placed.{IsPlaced}
use Rattle.ioc_project.specs.Project.{fixes_clock, domain_tests}
use Rattle.res_model.specs.Signals.{signal_named, rows_of, own_mode}
use Rattle.res_model.specs.Valid.{IsValid, IsModeOf, IsSignal}
use Rattle.res_model.specs.Placement.{is_exti}
use Rattle.res_model.specs.declared.table.Role.{Role}
use Rattle.res_model.specs.declared.table.Role.TheVariants as role
use Rattle.res_model.specs.declared.table.Mode.TheVariants as mode
use Rattle.res_model.specs.Values.{rows_at, rows_elsewhere, use_at, placed, values_from, values_of, pin_values, pin_variables}
use Rattle.res_model.specs.declared.clock.Facts.{Facts}
use Rattle.res_model.specs.declared.opts.Opts.{Opts}
use Rattle.res_model.specs.declared.project.Project.{Project}
use Rattle.res_model.specs.declared.project.Signal.{Signal}
use Rattle.res_model.specs.declared.table.Mode.{Mode}
use Rattle.res_model.specs.declared.table.PinUse.{PinUse}
use Rattle.res_model.specs.declared.table.TableSignal.{TableSignal}
use Rattle.res_model.specs.declared.table.TableParts.{TableParts}
use Rattle.problem.specs.declared.parts.Part.{Part}
use Rattle.problem.specs.declared.parts.Part.TheVariants.{PinsOnly, Whole}
use Rattle.problem.specs.declared.parts.ProblemParts.{ProblemParts}
use Rattle.problem.specs.ClockValues.{clock_domains, clock_values, clock_variables}
use Rattle.problem.specs.Problem.{are_alike, AreFrom, AreHomesDue, ArePins, HaveValues, IsClock, IsProblem, clock_of, clock_shape, first_of, problem_of, shape_of}
use Rattle.problem.proofs.DomainLemmas.{homes_due, values_from_domains}
use Rattle.problem.proofs.UseLemmas.{all_functions, each_find, rows_each, values_each}
use Rattle.problem.proofs.ValueLemmas.{AreHomesIn, spans, domains_in, tests_in, homes_in, values_in, in_range, as_many, clock_positions, clock_small, clock_have, clock_length}

pub each_sized : (t : TableParts) (ss : List Signal) → IsValid t → Each (IsPlaced t) ss → Each (IsSized t) ss
each_sized t [] valid h = tt
each_sized t (s ∷ ss) valid h = (sizes.sized t s valid h.0, each_sized t ss valid h.1)

positions : (t : TableParts) (ss : List Signal) → Each (IsSized t) ss → HasPositions (pin_variables t ss)
positions t [] h = tt
positions t (s ∷ ss) h = (omega (arith, h.0.some), positions t ss h.1)

small_sizes : (t : TableParts) (ss : List Signal) → Each (IsSized t) ss → HasSmallSizes (pin_variables t ss)
small_sizes t [] h = tt
small_sizes t (s ∷ ss) h = (omega (arith, h.0.few), small_sizes t ss h.1)

length_variables : (t : TableParts) (ss : List Signal) → length (pin_variables t ss) ≡ length ss
length_variables t [] = refl
length_variables t (s ∷ ss) = omega (arith, length_variables t ss)

length_values : (t : TableParts) (ss : List Signal) → length (pin_values t ss) ≡ length ss
length_values t [] = refl
length_values t (s ∷ ss) = omega (arith, length_values t ss)

pins_have : (t : TableParts) (ss : List Signal) → HaveValues (pin_variables t ss) (pin_values t ss)
pins_have t [] = tt
pins_have t (s ∷ ss) = (refl, pins_have t ss)

both_each : (P : VarShape → Type 0) (xs ys : List VarShape) → Each P xs → Each P ys → Each P (xs ++ ys)
both_each P [] ys h k = k
both_each P (x ∷ xs) ys h k = (h.0, both_each P xs ys h.1 k)

take_prefix : (xs ys : List VarShape) (n : ℕ) → n ≡ length xs → take n (xs ++ ys) ≡ xs
take_prefix [] ys zero e = refl
take_prefix [] ys (suc n) e = absurd (omega (arith, e))
take_prefix (x ∷ xs) ys zero e = absurd (omega (arith, e))
take_prefix (x ∷ xs) ys (suc n) e = ap (λ (l : List VarShape). x ∷ l) (take_prefix xs ys n (omega (arith, e)))

drop_prefix : (xs ys : List VarShape) (n : ℕ) → n ≡ length xs → drop n (xs ++ ys) ≡ ys
drop_prefix [] ys zero e = refl
drop_prefix [] ys (suc n) e = absurd (omega (arith, e))
drop_prefix (x ∷ xs) ys zero e = absurd (omega (arith, e))
drop_prefix (x ∷ xs) ys (suc n) e = drop_prefix xs ys n (omega (arith, e))

-- the clocks of a part: their values, where there are any, are ten lists within the widest
record Clocks (t : TableParts) (p : Project) (opts : Opts) (part : Part) : Type 0 where
  few : length (clock_shape t p opts part) ≤ 10
  first : first_of part ≡ length (clock_shape t p opts part)
  values : first_of part ≡ length (clock_of t p opts part)
  positions : HasPositions (clock_shape t p opts part)
  small : HasSmallSizes (clock_shape t p opts part)
  have : HaveValues (clock_shape t p opts part) (clock_of t p opts part)
  clock : first_of part ≢ 0 → IsClock (clock_of t p opts part)
  domains : first_of part ≢ 0 → AreFrom (clock_of t p opts part) (clock_domains t)

-- the homes of fixed clock variables lie within the widest bounds
pub fixed_in : (t : TableParts) (p : Project) (opts : Opts) → IsValid t → length p.clock ≡ 10 → AreHomesDue t p opts Whole → fixes_clock opts.free ≡ true → AreHomesIn spans p.clock
fixed_in t p opts valid ten due e = homes_in spans (domain_tests t.clock) p.clock (tests_in t valid.clock) ten (due e)

pub ten_domains : (t : TableParts) → length (clock_domains t) ≡ 10
unfolding clock_domains
ten_domains t = refl

clocks_are : (t : TableParts) (p : Project) (opts : Opts) (part : Part) → IsValid t → length p.clock ≡ 10 → AreHomesDue t p opts part → Clocks t p opts part
clocks_are t p opts PinsOnly valid ten due = record {
  few = omega arith;
  first = refl;
  values = refl;
  positions = tt;
  small = tt;
  have = tt;
  clock = λ n. absurd (n refl);
  domains = λ n. absurd (n refl);
}
clocks_are t p opts Whole valid ten due =
    let fixed = fixes_clock opts.free in
    let ds = clock_domains t in
    let vs = values_in fixed spans ds p.clock (domains_in t valid.clock) (ten ∙ sym (ten_domains t)) (fixed_in t p opts valid ten due) in
    let many : length (clock_values fixed ds p.clock) ≡ 10 = as_many spans (clock_values fixed ds p.clock) vs in
    let shape : length (clock_variables fixed ds p.clock) ≡ 10 = clock_length fixed ds p.clock ∙ many in
    record {
      few = omega (arith, shape);
      first = sym shape;
      values = sym many;
      positions = clock_positions fixed spans ds p.clock vs;
      small = clock_small fixed spans ds p.clock vs;
      have = clock_have fixed ds p.clock;
      clock = λ n. record { ten = many; in_range = in_range (clock_values fixed ds p.clock) vs };
      domains = λ n. values_from_domains fixed ds p.clock (ten ∙ sym (ten_domains t)) (λ e. homes_due t p.clock ten (due e));
    }

-- ---- pins of the values

own_pins : (t : TableParts) (home : ℕ) (own : Option Mode) → home < length t.pins → ArePins t (use_at home own)
own_pins t home None l = tt
own_pins t home (Some mode) l = (l, tt)

home_pins : (t : TableParts) (home : Option ℕ) (own : Option Mode) → IfSome home (λ h. h < length t.pins) → IfSome home (λ h. ArePins t (use_at h own))
home_pins t None own l = tt
home_pins t (Some home) own l = own_pins t home own l

found_rows : (t : TableParts) (o : Option TableSignal) → MatchOption o (Unit {0}) (IsSignal (length t.pins)) → ArePins t (rows_of o)
found_rows t None h = tt
found_rows t (Some s) h = h.rows.at_pins

home_within : (t : TableParts) (s : Signal) → IsPlaced t s → IfSome s.home (λ h. h < length t.pins)
home_within t s p = case s.need s.home refl refl
  where
    case : (b : Bool) (o : Option ℕ) → s.need ≡ b → s.home ≡ o → IfSome o (λ h. h < length t.pins)
    case b None e q = tt
    case true (Some h) e q = let n : ◌≡◌ {A = Option ℕ} (Some h) None = sym q ∙ (p.needed e).0 in cc
    case false (Some h) e q = let k = subst (λ (o : Option ℕ). IsSomeAnd o (λ h. h < length t.pins)) q (p.at_home e) in k

-- each value of a signal is of a pin of the list
pinned : (t : TableParts) (s : Signal) → IsValid t → IsPlaced t s → ArePins t (values_of t s)
unfolding signal_named values_of
pinned t s valid p =
    let found : Option TableSignal = find (λ x. bytes_eq x.name s.name) t.signals in
    values_each (λ u. u.pin < length t.pins) (rows_of found) (own_mode s.name found) s.locked s.home
    (found_rows t found (each_find (IsSignal (length t.pins)) (λ x. bytes_eq x.name s.name) t.signals valid.signals.each)) (home_pins t s.home (own_mode s.name found) (home_within t s p))

pub all_pinned : (t : TableParts) (ss : List Signal) → IsValid t → Each (IsPlaced t) ss → Each (ArePins t) (pin_values t ss)
all_pinned t [] valid h = tt
all_pinned t (s ∷ ss) valid h = (pinned t s valid h.0, all_pinned t ss valid h.1)

-- ---- interrupts

plain_mode : (r : Role) (m : Mode) → IsModeOf r m → is_exti m ≡ false
plain_mode role.Alt (mode.Alt n) h = refl
plain_mode role.Alt mode.Input h = absurd h
plain_mode role.Alt mode.Output h = absurd h
plain_mode role.Alt mode.Analog h = absurd h
plain_mode role.Alt mode.Exti h = absurd h
plain_mode role.Alt mode.Osc h = absurd h
plain_mode role.Alt mode.Held h = absurd h
plain_mode role.Input m h = absurd h
plain_mode role.Output m h = absurd h
plain_mode role.Analog m h = ap is_exti h
plain_mode role.Exti m h = absurd h
plain_mode role.Osc m h = ap is_exti h

abbrev ArePlain : List PinUse → Type 0
ArePlain us = Each (λ (u : PinUse). is_exti u.mode ≡ false) us

none_is : (us : List PinUse) → ArePlain us → list_any (λ (u : PinUse). is_exti u.mode) us ≡ false
none_is [] h = refl
none_is (u ∷ us) h = rw h.0 (none_is us h.1)

plain_alike : (us : List PinUse) → ArePlain us → are_alike us ≡ true
plain_alike us h = rw (none_is us h) refl

one_alike : (b : Bool) → (not (b || false) || (b && true)) ≡ true
one_alike true = refl
one_alike false = refl

own_alike : (home : ℕ) (own : Option Mode) → are_alike (use_at home own) ≡ true
own_alike home None = refl
own_alike home (Some m) = one_alike (is_exti m)

placed_alike : (rows : List PinUse) (own : Option Mode) (locked : Bool) (home : ℕ) → ArePlain rows → are_alike (placed rows own locked home) ≡ true
placed_alike [] own locked home h = own_alike home own
placed_alike (row ∷ rows) own locked home h =
    plain_alike (rows_at home (row ∷ rows) ++ cond locked [] (rows_elsewhere home (row ∷ rows))) (rows_each (λ u. is_exti u.mode ≡ false) (row ∷ rows) locked home h)

values_alike : (rows : List PinUse) (own : Option Mode) (locked : Bool) (home : Option ℕ) → ArePlain rows → are_alike (values_from rows own locked home) ≡ true
values_alike rows own locked None h = plain_alike rows h
values_alike rows own locked (Some home) h = placed_alike rows own locked home h

rows_plain : (n : ℕ) (o : Option TableSignal) → MatchOption o (Unit {0}) (IsSignal n) → ArePlain (rows_of o)
rows_plain n None h = tt
rows_plain n (Some s) h = each_map (λ (u : PinUse). IsModeOf s.role u.mode) (λ (u : PinUse). is_exti u.mode ≡ false) s.at (λ u k. plain_mode s.role u.mode k) h.rows.modes

signal_alike : (t : TableParts) (s : Signal) → IsValid t → are_alike (values_of t s) ≡ true
unfolding signal_named values_of
signal_alike t s valid =
    let found : Option TableSignal = find (λ x. bytes_eq x.name s.name) t.signals in
    values_alike (rows_of found) (own_mode s.name found) s.locked s.home
    (rows_plain (length t.pins) found (each_find (IsSignal (length t.pins)) (λ x. bytes_eq x.name s.name) t.signals valid.signals.each))

-- no signal has interrupts beside other values
all_alike : (t : TableParts) (ss : List Signal) → IsValid t → list_all are_alike (pin_values t ss) ≡ true
all_alike t [] valid = refl
all_alike t (s ∷ ss) valid = rw (signal_alike t s valid) (all_alike t ss valid)

module _ (t : TableParts) (p : Project) (opts : Opts) (part : Part) (valid : IsValid t) (ten : length p.clock ≡ 10) (few : length p.signals ≤ 160) (placed : Each (IsPlaced t) p.signals) (due : AreHomesDue t p opts part) where
  clocks : Clocks t p opts part
  clocks = clocks_are t p opts part valid ten due

  pub shape_few : length (shape_of t p opts part) ≤ 170
  unfolding shape_of
  shape_few = simp length-append (omega (arith, clocks.few, length_variables t p.signals, few))

  pub shape_positions : HasPositions (shape_of t p opts part)
  unfolding shape_of
  shape_positions = both_each (λ v. 0 < v.size) (clock_shape t p opts part) (pin_variables t p.signals) clocks.positions (positions t p.signals (each_sized t p.signals valid placed))

  pub shape_small : HasSmallSizes (shape_of t p opts part)
  unfolding shape_of
  shape_small = both_each (λ v. v.size ≤ 512) (clock_shape t p opts part) (pin_variables t p.signals) clocks.small (small_sizes t p.signals (each_sized t p.signals valid placed))

  pub facts_are : p.hse_hz < 2 ^ 32 → AreFacts (facts_of t p opts)
  unfolding facts_of
  facts_are l = record { hse = l; need48 = refl }

  pub agree : IsNarrow (shape_of t p opts part) → p.hse_hz < 2 ^ 32 → IsProblem (problem_of t p opts part)
  unfolding problem_of shape_of
  agree narrow hertz = record {
    is_shape = record { few = shape_few; positions = shape_positions; small = shape_small; narrow = narrow };
    first = clocks.values;
    clock_sizes = subst (λ vs. HaveValues vs (clock_of t p opts part)) (sym (take_prefix (clock_shape t p opts part) (pin_variables t p.signals) (first_of part) clocks.first)) clocks.have;
    use_sizes = subst (λ vs. HaveValues vs (pin_values t p.signals)) (sym (drop_prefix (clock_shape t p opts part) (pin_variables t p.signals) (first_of part) clocks.first)) (pins_have t p.signals);
    signals = sym (length_values t p.signals);
    few = few;
    pins = all_pinned t p.signals valid placed;
    alike = all_alike t p.signals valid;
    functions = all_functions t p.signals valid;
    facts = facts_are hertz;
    clock = clocks.clock;
    domains = clocks.domains;
  }

-- parts that are each the problem's are the problem
pub parts_are :
    (t : TableParts) (p : Project) (opts : Opts) (part : Part) (shape : List VarShape) (first : ℕ) (clock : List (List ℕ)) (uses : List (List PinUse)) (facts : Facts)
    → shape ≡ shape_of t p opts part → first ≡ first_of part → clock ≡ clock_of t p opts part → uses ≡ pin_values t p.signals → facts ≡ facts_of t p opts
    → (let q : ProblemParts = record { shape = shape; first = first; clock = clock; uses = uses; signals = p.signals; facts = facts; tables = t } in q) ≡ problem_of t p opts part
unfolding problem_of
parts_are t p opts part shape first clock uses facts e f g h i = cc
