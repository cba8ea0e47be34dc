-- A value that was read of a line does not end in a CR.
use Rattle.std.proofs.Common.{◌≡◌, ℕ, ◌<◌, ◌^◌, ◌==◌, List, [], ◌∷◌, ◌++◌, length, drop, take, Bool, true, false, cond, Option, Some, None, Result, Ok, Err, refl, sym, ap, ◌∙◌, subst, inl, inr, arith}
use Rattle.std.specs.Prelude.{codes, decimal, find, nat_eq, nat_le, nat_lt, option_and_then}
use Rattle.std.specs.List.{list_any, starts_with}
use Rattle.std.specs.Str.{bytes_eq}
use Rattle.std.specs.Str.Parse.{digits_value}
use Rattle.std.proofs.lemmas.Bool.Decides.{nat_tests}
use Rattle.std.proofs.lemmas.Fmt.{decimal_nonempty}
use Rattle.std.proofs.lemmas.List.{take-append-drop}
use Rattle.std.proofs.lemmas.Slice.Eq.{bytes_eq-Decides}
use Rattle.res_base.specs.Lists.{Each}
use Rattle.res_base.proofs.SumLemmas.{bool_cases}
use Rattle.res_model.specs.Numbers.{number_of, number_up_to}
use Rattle.res_model.specs.Signals.{signal_named}
use Rattle.res_model.specs.Valid.{IsPrinting, IsText}
use Rattle.res_model.specs.declared.table.TableParts.{TableParts}
use Rattle.res_model.specs.declared.table.TableSignal.{TableSignal}
use Rattle.res_model.specs.declared.project.Pull.{Pull}
use Rattle.res_model.specs.declared.project.Speed.{Speed}
use Rattle.ioc_text.specs.declared.line.Line.{Line}
use Rattle.ioc_project.specs.Project.{hertz_of, named_package, named_part, number_after, pll_source_of, pull_of, speed_of, system_source_of, truth_of}
use Rattle.ioc_project.specs.declared.fault.ProjectFault.{ProjectFault}
use Rattle.ioc_project.specs.declared.fault.ProjectFault.TheVariants.{WrongPart}
use Rattle.ioc_lines.specs.Entries.{value_of}
use Rattle.ioc_lines.specs.Lines.{last_of}
use Rattle.ioc_lines.proofs.PlainLemmas.{decimal_plain, plain_print, print_last}
use Rattle.ioc_lines.proofs.TextCuts.{last_behind}
use Rattle.ioc_write.proofs.LookBack.{DoesNotEndInCr}

-- ---- texts

pub print_ends : (v : List ℕ) → Each IsPrinting v → DoesNotEndInCr v
unfolding last_of
print_ends [] h = refl
print_ends (b ∷ bs) h = print_last b bs h

-- a text of a list
pub among : (v : List ℕ) (ws : List (List ℕ)) → Each IsText ws → list_any (bytes_eq v) ws ≡ true → DoesNotEndInCr v
among v [] h e = absurd cc
among v (w ∷ ws) h e = elim (bool_cases (bytes_eq v w)) [
  | inl y ↦ let same : v ≡ w = (bytes_eq-Decides v w).0 y in subst DoesNotEndInCr (sym same) (print_ends w h.0.printing)
  | inr n ↦ let more : list_any (bytes_eq v) ws ≡ true = rw n at e in among v ws h.1 more
]

pub is_text : (v w : List ℕ) → bytes_eq v w ≡ true → DoesNotEndInCr w → DoesNotEndInCr v
is_text v w e d = subst DoesNotEndInCr (sym ((bytes_eq-Decides v w).0 e)) d

-- ---- numbers

decimal_last : (x : List ℕ) (n : ℕ) → n < 2 ^ 64 → DoesNotEndInCr (x ++ decimal n)
decimal_last x n l = by (decimal n) refl (decimal_nonempty n l) (plain_print (decimal n) (decimal_plain n l))
  where
    by : (ds : List ℕ) → decimal n ≡ ds → 0 < length ds → Each IsPrinting ds → DoesNotEndInCr (x ++ decimal n)
    by [] e some h = absurd (omega arith)
    by (b ∷ bs) e some h = subst (λ (ds : List ℕ). DoesNotEndInCr (x ++ ds)) (sym e) (ap (λ (c : ℕ). c == 13) (last_behind x b bs) ∙ print_last b bs h)

pub is_decimal : (v : List ℕ) (n : ℕ) → number_of v ≡ Some n → (v ≡ decimal n) × (n < 2 ^ 64)
unfolding number_of
is_decimal v n e = elim (bool_cases (nat_lt (digits_value 10 v) (2 ^ 64))) [
  | inr f ↦ let g : (let o : Option ℕ = None in o) ≡ Some n = rw f at e in absurd cc
  | inl t ↦ elim (bool_cases (bytes_eq v (decimal (digits_value 10 v)))) [
    | inr f ↦ let g : (let o : Option ℕ = None in o) ≡ Some n = rw (t, f) at e in absurd cc
    | inl u ↦
        let g : Some (digits_value 10 v) ≡ Some n = rw (t, u) at e in
        let same : digits_value 10 v ≡ n = cc in
        let low : digits_value 10 v < 2 ^ 64 = grind (arith, nat_tests) in
        ((bytes_eq-Decides v (decimal (digits_value 10 v))).0 u ∙ ap decimal same, subst (λ (k : ℕ). k < 2 ^ 64) same low)
  ]
]

pub number_ends : (v : List ℕ) (n : ℕ) → number_of v ≡ Some n → DoesNotEndInCr v
number_ends v n e = let d = is_decimal v n e in subst DoesNotEndInCr (sym d.0) (decimal_last [] n d.1)

up_to : (most : ℕ) (o : Option ℕ) (n : ℕ) → option_and_then (λ (m : ℕ). cond (nat_le m most) (Some m) None) o ≡ Some n → o ≡ Some n
up_to most None n e = absurd cc
up_to most (Some m) n e = elim (bool_cases (nat_le m most)) [
  | inl t ↦ rw t at e
  | inr f ↦ let g : (let o : Option ℕ = None in o) ≡ Some n = rw f at e in absurd cc
]

below_is : (most : ℕ) (v : List ℕ) (n : ℕ) → number_up_to most v ≡ Some n → number_of v ≡ Some n
unfolding number_up_to
below_is most v n e = up_to most (number_of v) n e

pub hertz_ends : (v : List ℕ) (n : ℕ) → hertz_of v ≡ Some n → DoesNotEndInCr v
unfolding hertz_of
hertz_ends v n e = number_ends v n (below_is 4294967295 v n e)

pub after_ends : (beginning v : List ℕ) (n : ℕ) → number_after beginning v ≡ Some n → DoesNotEndInCr v
unfolding number_after
after_ends beginning v n e = elim (bool_cases (starts_with nat_eq v beginning)) [
  | inr f ↦ let g : (let o : Option ℕ = None in o) ≡ Some n = rw f at e in absurd cc
  | inl t ↦
      let g : number_up_to 65535 (drop (length beginning) v) ≡ Some n = rw t at e in
      let d = is_decimal (drop (length beginning) v) n (below_is 65535 (drop (length beginning) v) n g) in
      subst DoesNotEndInCr (ap (λ (x : List ℕ). take (length beginning) v ++ x) (sym d.0) ∙ take-append-drop (length beginning) v) (decimal_last (take (length beginning) v) n d.1)
]

-- ---- words

word : {X : Type 0} (v w : List ℕ) (x : X) (rest : Option X) (y : X) → DoesNotEndInCr w → cond (bytes_eq v w) (Some x) rest ≡ Some y → (rest ≡ Some y → DoesNotEndInCr v) → DoesNotEndInCr v
word v w x rest y d e more = elim (bool_cases (bytes_eq v w)) [
  | inl t ↦ is_text v w t d
  | inr f ↦ more (rw f at e)
]

pub truth_ends : (v : List ℕ) (y : Bool) → truth_of v ≡ Some y → DoesNotEndInCr v
unfolding last_of
truth_ends v y e = word v (codes "true") true _ y refl e (λ e. word v (codes "false") false None y refl e (λ e. absurd cc))

pub system_ends : (v : List ℕ) (y : ℕ) → system_source_of v ≡ Some y → DoesNotEndInCr v
unfolding last_of system_source_of
system_ends v y e = word v (codes "RCC_SYSCLKSOURCE_HSI") 0 _ y refl e (λ e. word v (codes "RCC_SYSCLKSOURCE_HSE") 1 _ y refl e (λ e. word v (codes "RCC_SYSCLKSOURCE_PLLCLK") 2 None y refl e (λ e. absurd cc)))

pub pll_ends : (v : List ℕ) (y : ℕ) → pll_source_of v ≡ Some y → DoesNotEndInCr v
unfolding last_of pll_source_of
pll_ends v y e = word v (codes "RCC_PLLSOURCE_HSI") 0 _ y refl e (λ e. word v (codes "RCC_PLLSOURCE_HSE") 1 None y refl e (λ e. absurd cc))

pub pull_ends : (v : List ℕ) (y : Pull) → pull_of v ≡ Some y → DoesNotEndInCr v
unfolding last_of pull_of
pull_ends v y e = word v (codes "GPIO_NOPULL") _ _ y refl e (λ e. word v (codes "GPIO_PULLUP") _ _ y refl e (λ e. word v (codes "GPIO_PULLDOWN") _ None y refl e (λ e. absurd cc)))

pub speed_ends : (v : List ℕ) (y : Speed) → speed_of v ≡ Some y → DoesNotEndInCr v
unfolding last_of speed_of
speed_ends v y e = word v (codes "GPIO_SPEED_FREQ_LOW") _ _ y refl e (λ e. word v (codes "GPIO_SPEED_FREQ_MEDIUM") _ _ y refl e (λ e. word v (codes "GPIO_SPEED_FREQ_HIGH") _ _ y refl e (λ e. word v (codes "GPIO_SPEED_FREQ_VERY_HIGH") _ None y refl e (λ e. absurd cc))))

-- ---- the part and the package

test_passed : (b : Bool) (f : ProjectFault) → (let r : Result (Unit {0}) ProjectFault = cond b (Ok tt) (Err f) in r) ≡ Ok tt → b ≡ true
test_passed true f e = refl
test_passed false f e = absurd cc

pub part_ends : (t : TableParts) → Each IsText t.names → (o : Option Line) (v : List ℕ) → named_part t o ≡ Ok tt → value_of o ≡ Some v → DoesNotEndInCr v
part_ends t h None v e q = absurd cc
part_ends t h (Some l) v e q = let same : l.value ≡ v = cc in subst DoesNotEndInCr same (among l.value t.names h (test_passed (list_any (bytes_eq l.value) t.names) (WrongPart l.number) e))

pub package_ends : (t : TableParts) → IsText t.package → (o : Option Line) (v : List ℕ) → named_package t o ≡ Ok tt → value_of o ≡ Some v → DoesNotEndInCr v
package_ends t h None v e q = absurd cc
package_ends t h (Some l) v e q = let same : l.value ≡ v = cc in subst DoesNotEndInCr same (is_text l.value t.package (test_passed (bytes_eq l.value t.package) (WrongPart l.number) e) (print_ends t.package h.printing))

-- ---- signals of the table

pub signal_ends : (t : TableParts) → Each (λ (s : TableSignal). IsText s.name) t.signals → (v : List ℕ) (s : TableSignal) → signal_named t v ≡ Some s → DoesNotEndInCr v
unfolding signal_named
signal_ends t h v s e = by t.signals h e
  where
    by : (ss : List TableSignal) → Each (λ (x : TableSignal). IsText x.name) ss → find (λ (x : TableSignal). bytes_eq x.name v) ss ≡ Some s → DoesNotEndInCr v
    by [] k f = absurd cc
    by (x ∷ xs) k f = elim (bool_cases (bytes_eq x.name v)) [
      | inl y ↦ let same : x.name ≡ v = (bytes_eq-Decides x.name v).0 y in subst DoesNotEndInCr same (print_ends x.name k.0.printing)
      | inr n ↦ let more : find (λ (z : TableSignal). bytes_eq z.name v) xs ≡ Some s = rw n at f in by xs k.1 more
    ]
