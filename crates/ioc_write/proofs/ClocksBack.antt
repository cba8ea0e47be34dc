-- The clock variables of the text that is written have the choice's values as their homes.
use Rattle.std.proofs.Common.{◌≡◌, ◌≢◌, ℕ, zero, suc, ◌≤◌, ◌==◌, ◌&&◌, List, [], ◌∷◌, ◌++◌, map, Bool, true, false, not, cond, Option, Some, None, refl, sym, ap, ◌∙◌, subst, inl, inr, arith}
use Rattle.std.specs.Prelude.{codes, is_some}
use Rattle.std.specs.List.{flat_map}
use Rattle.std.specs.Option.{option_to_list}
use Rattle.std.specs.Str.{bytes_eq}
use Rattle.std.proofs.lemmas.Bool.Decides.{nat_tests}
use Rattle.res_base.specs.Lists.{Each, Member}
use Rattle.res_base.proofs.ListLemmas.{member_left, member_right}
use Rattle.res_base.proofs.SumLemmas.{bool_cases}
use Rattle.res_model.specs.Clock.{IsInRange}
use Rattle.ioc_text.specs.Lines.{is_named, pin_number}
use Rattle.problem.specs.ClockValues.{clock_at, clock_value}
use Rattle.problem.specs.declared.parts.ProblemParts.{ProblemParts}
use Rattle.ioc_lines.specs.Entries.{AreApart, Entry, Reads, entries, entry_if, entry_of, lookup}
use Rattle.ioc_lines.specs.Lines.{Keyed, TextLine, keyed}
use Rattle.ioc_lines.specs.Standing.{Means}
use Rattle.ioc_lines.proofs.LineLemmas.{reads_named, short_line, value_read}
use Rattle.ioc_lines.proofs.TextCuts.{says_on}
use Rattle.ioc_write.specs.Back.{form_of, value_in}
use Rattle.ioc_write.specs.Reading.{changed, entry_said}
use Rattle.ioc_write.specs.WriteBack.{clock_key, has_variable, is_away, number_of, spelled, variable_of, variable_on, variables, variables_on}
use Rattle.ioc_write.specs.declared.change.Change.TheVariants as change
use Rattle.ioc_write.specs.declared.variable.Variable.{Variable}
use Rattle.ioc_write.specs.declared.variable.Variable.TheVariants as variable
use Rattle.ioc_write.proofs.AppendLemmas.{clock_entries}
use Rattle.ioc_write.proofs.ApartLemmas.{FarFrom, all_clocks, same_variable, variable_of_key}
use Rattle.ioc_write.proofs.BackLemmas as back
use Rattle.ioc_write.proofs.ChangeLemmas.{IsSet, by_same, special_clock, with_other}
use Rattle.ioc_write.proofs.CleanLemmas.{after_ends, pll_ends, print_ends, system_ends}
use Rattle.ioc_write.proofs.LineBack.{spelled_value}
use Rattle.ioc_write.proofs.LookBack.{DoesNotEndInCr, lookup_added, lookup_none, lookup_to}
use Rattle.ioc_write.proofs.NamedLemmas.{key_of_variable, named_clock}
use Rattle.ioc_write.proofs.TextBack.{NearAll}
use Rattle.res_model.specs.ClockValues.{source_number, source_of}

-- ---- keys of clock variables

pub number_none : (v : Variable) → is_some (pin_number (clock_key v)) ≡ false
unfolding pin_number
number_none variable.System = refl
number_none variable.Input = refl
number_none variable.Ahb = refl
number_none variable.P = refl
number_none variable.M = refl
number_none variable.N = refl
number_none variable.Q = refl
number_none variable.Apb1 = refl
number_none variable.Apb2 = refl

count_none : (v : Variable) → bytes_eq (clock_key v) (codes "Mcu.PinsNb") ≡ false
count_none variable.System = refl
count_none variable.Input = refl
count_none variable.Ahb = refl
count_none variable.P = refl
count_none variable.M = refl
count_none variable.N = refl
count_none variable.Q = refl
count_none variable.Apb1 = refl
count_none variable.Apb2 = refl

form_ends : (v : Variable) (x : List ℕ) (y : ℕ) → form_of v x ≡ Some y → DoesNotEndInCr x
form_ends variable.System x y e = system_ends x y e
form_ends variable.Input x y e = pll_ends x y e
form_ends variable.Ahb x y e = after_ends (codes "RCC_SYSCLK_DIV") x y e
form_ends variable.P x y e = after_ends (codes "RCC_PLLP_DIV") x y e
form_ends variable.M x y e = after_ends [] x y e
form_ends variable.N x y e = after_ends [] x y e
form_ends variable.Q x y e = after_ends [] x y e
form_ends variable.Apb1 x y e = after_ends (codes "RCC_HCLK_DIV") x y e
form_ends variable.Apb2 x y e = after_ends (codes "RCC_HCLK_DIV") x y e

-- ---- a variable with a key has an entry

-- the variable of a number
abbrev numbered : ℕ → Variable
numbered zero = variable.System
numbered (suc zero) = variable.Input
numbered (suc (suc zero)) = variable.Ahb
numbered (suc (suc (suc zero))) = variable.P
numbered (suc (suc (suc (suc zero)))) = variable.M
numbered (suc (suc (suc (suc (suc zero))))) = variable.N
numbered (suc (suc (suc (suc (suc (suc zero)))))) = variable.Q
numbered (suc (suc (suc (suc (suc (suc (suc zero))))))) = variable.Apb1
numbered (suc (suc (suc (suc (suc (suc (suc (suc n)))))))) = variable.Apb2

itself : (v : Variable) → numbered (number_of v) ≡ v
itself variable.System = refl
itself variable.Input = refl
itself variable.Ahb = refl
itself variable.P = refl
itself variable.M = refl
itself variable.N = refl
itself variable.Q = refl
itself variable.Apb1 = refl
itself variable.Apb2 = refl

same_number : (v w : Variable) → (number_of w == number_of v) ≡ true → w ≡ v
same_number v w e = let same : number_of w ≡ number_of v = grind (arith, nat_tests) in sym (itself w) ∙ ap numbered same ∙ itself v

entry_there : (says : List ℕ) (k : Keyed) (v : Variable) → Reads says → keyed says ≡ Some k → variable_of k.key ≡ Some v → (x : List ℕ) × (entry_of says ≡ Some (clock_key v, x))
entry_there says k v r h e =
    let key = key_of_variable k.key v e in
    let nm : is_named k.key ≡ true = ap is_named key ∙ named_clock v in
    let x = value_read says k h r nm in
    (x.0, (reads_named says k h (short_line says r) x.0 nm x.1).1 ∙ ap (λ (y : List ℕ). Some (y, x.0)) key)

pub record HasEntry (v : Variable) (es : List Entry) : Type 0 where
  pub value : List ℕ
  pub member : Member (clock_key v, value) es

more_has : (v : Variable) (o : Option Entry) (es : List Entry) → HasEntry v es → HasEntry v (entry_if o ++ es)
more_has v o es h = record { value = h.value; member = member_right (clock_key v, h.value) (entry_if o) es h.member }

here_has : (v : Variable) (o : Option Entry) (es : List Entry) (x : List ℕ) → o ≡ Some (clock_key v, x) → HasEntry v (entry_if o ++ es)
here_has v o es x e = record { value = x; member = member_left (clock_key v, x) (entry_if o) es (subst (λ (u : Option Entry). Member (clock_key v, x) (entry_if u)) (sym e) (inl refl)) }

module _ (v : Variable) (l : TextLine) (ls : List TextLine) (r : Reads l.says) (rest : has_variable (variables_on ls) v ≡ true → HasEntry v (entries (map says_on ls))) where
  by_variable : (k : Keyed) → keyed l.says ≡ Some k → (o : Option Variable) → variable_of k.key ≡ o → has_variable (option_to_list o ++ variables_on ls) v ≡ true → HasEntry v (entries (map says_on (l ∷ ls)))
  by_variable k h None e y = more_has v (entry_of l.says) (entries (map says_on ls)) (rest y)
  by_variable k h (Some w) e y = elim (bool_cases (number_of w == number_of v)) [
    | inl t ↦
        let same = same_number v w t in
        let x = entry_there l.says k v r h (e ∙ ap Some same) in
        here_has v (entry_of l.says) (entries (map says_on ls)) x.0 x.1
    | inr n ↦ let more : has_variable (variables_on ls) v ≡ true = rw n at y in more_has v (entry_of l.says) (entries (map says_on ls)) (rest more)
  ]

  by_keyed : (o : Option Keyed) → keyed l.says ≡ o → has_variable (option_to_list (variable_on o) ++ variables_on ls) v ≡ true → HasEntry v (entries (map says_on (l ∷ ls)))
  by_keyed None h y = more_has v (entry_of l.says) (entries (map says_on ls)) (rest y)
  by_keyed (Some k) h y = by_variable k h (variable_of k.key) refl y

pub has_entry : (v : Variable) (ls : List TextLine) → Each Reads (map says_on ls) → has_variable (variables_on ls) v ≡ true → HasEntry v (entries (map says_on ls))
has_entry v [] r y = absurd cc
has_entry v (l ∷ ls) r y = by_keyed v l ls r.0 (λ z. has_entry v ls r.1 z) (keyed l.says) refl y

-- ---- what is appended of clock variables

and_true : (a b : Bool) → a && b ≡ true → a ≡ true
and_true true b e = refl
and_true false b e = absurd cc

pub both_true : (a b : Bool) → a ≡ true → b ≡ false → a && not b ≡ true
both_true true false d e = refl
both_true true true d e = absurd cc
both_true false b d e = absurd cc

module _ (p : ProblemParts) (at : List ℕ) (keys : List Variable) where
  abbrev its_entry : Variable → Entry
  its_entry v = (clock_key v, spelled (clock_at p.clock at) v)

  here : (v w : Variable) (vs : List Variable) → (Member v vs → Member (its_entry v) (clock_entries p at keys vs)) → Member v (w ∷ vs) → Member (its_entry v) (its_entry w ∷ clock_entries p at keys vs)
  here v w vs more (inl e) = inl (ap its_entry e)
  here v w vs more (inr i) = inr (more i)

  there : (v w : Variable) (vs : List Variable) → is_away p at v && not (has_variable keys v) ≡ true → (Member v vs → Member (its_entry v) (clock_entries p at keys vs)) → Member v (w ∷ vs)
      → is_away p at w && not (has_variable keys w) ≡ false → Member (its_entry v) (clock_entries p at keys vs)
  there v w vs y more (inl e) n = let f : is_away p at v && not (has_variable keys v) ≡ false = ap (λ (x : Variable). is_away p at x && not (has_variable keys x)) e ∙ n in absurd cc
  there v w vs y more (inr i) n = more i

  pub clock_member : (v : Variable) (vs : List Variable) → Member v vs → is_away p at v && not (has_variable keys v) ≡ true → Member (its_entry v) (clock_entries p at keys vs)
  clock_member v [] m y = absurd m
  clock_member v (w ∷ vs) m y = elim (bool_cases (is_away p at w && not (has_variable keys w))) [
    | inl t ↦ rw t (here v w vs (λ i. clock_member v vs i y) m)
    | inr n ↦ rw n (there v w vs y (λ i. clock_member v vs i y) m n)
  ]

  pub clock_far : (v : Variable) → is_away p at v ≡ false → (vs : List Variable) → FarFrom (clock_key v) (clock_entries p at keys vs)
  clock_far v n vs = all_clocks p at keys (λ (key : List ℕ). clock_key v ≢ key) vs
      (λ w y e. (let away : is_away p at w ≡ true = and_true (is_away p at w) (not (has_variable keys w)) y in
      let same : is_away p at v ≡ true = ap (is_away p at) (same_variable v w e) ∙ away in
      absurd cc))

pub member_variable : (v : Variable) → Member v variables
member_variable variable.System = inl refl
member_variable variable.Input = inr (inl refl)
member_variable variable.Ahb = inr (inr (inl refl))
member_variable variable.P = inr (inr (inr (inl refl)))
member_variable variable.M = inr (inr (inr (inr (inl refl))))
member_variable variable.N = inr (inr (inr (inr (inr (inl refl)))))
member_variable variable.Q = inr (inr (inr (inr (inr (inr (inl refl))))))
member_variable variable.Apb1 = inr (inr (inr (inr (inr (inr (inr (inl refl)))))))
member_variable variable.Apb2 = inr (inr (inr (inr (inr (inr (inr (inr (inl refl))))))))

-- ---- a home that is written

module _ (p : ProblemParts) (at : List ℕ) (set : IsSet p at) (pins : ℕ) (es prefix more : List Entry) (apart : AreApart es) (near : NearAll (flat_map (changed p at pins) es) prefix) (all : AreApart (prefix ++ more))
    (range : IsInRange (clock_at p.clock at)) (v : Variable) where
  abbrev out : Option (List ℕ)
  out = lookup (prefix ++ more) (clock_key v)

  changed_is : (x : List ℕ) → changed p at pins (clock_key v, x) ≡ entry_said p at pins (clock_key v, x) (cond (is_away p at v) (change.Set v) change.Kept)
  changed_is x = with_other p at pins (clock_key v, x) (number_none v) (count_none v) (Some v) (variable_of_key v)

  spelled_ends : DoesNotEndInCr (spelled (clock_at p.clock at) v)
  spelled_ends = print_ends (spelled (clock_at p.clock at) v) (spelled_value (clock_at p.clock at) range v).print

  away_as : (o : Option (List ℕ)) → lookup es (clock_key v) ≡ o → is_away p at v ≡ true → (o ≡ None → Member (clock_key v, spelled (clock_at p.clock at) v) more) → out ≡ Some (spelled (clock_at p.clock at) v)
  away_as None e y m = lookup_added p at set pins es prefix more apart near all (clock_key v) (spelled (clock_at p.clock at) v) (m refl)
  away_as (Some x) e y m = lookup_to p at set pins es prefix more apart near all (clock_key v) x (spelled (clock_at p.clock at) v) e
      (changed_is x ∙ ap (λ (b : Bool). entry_said p at pins (clock_key v, x) (cond b (change.Set v) change.Kept)) y) spelled_ends

  home_as : (default w : ℕ) (o : Option (List ℕ)) → lookup es (clock_key v) ≡ o → is_away p at v ≡ false → Means default (form_of v) o w → FarFrom (clock_key v) more → o ≡ out
  home_as default w None e n m far = sym (lookup_none p at set pins es prefix more apart near all (clock_key v) (by_same refl (special_clock (clock_key v) v (variable_of_key v))) e far)
  home_as default w (Some x) e n m far = sym (lookup_to p at set pins es prefix more apart near all (clock_key v) x x e
      (changed_is x ∙ ap (λ (b : Bool). entry_said p at pins (clock_key v, x) (cond b (change.Set v) change.Kept)) n) (form_ends v x w m))

  pub clock_means : (default w0 w : ℕ) → Means default (form_of v) (lookup es (clock_key v)) w0 → (is_away p at v ≡ false → w0 ≡ w) → value_in (clock_at p.clock at) v ≡ w
      → (lookup es (clock_key v) ≡ None → is_away p at v ≡ true → Member (clock_key v, spelled (clock_at p.clock at) v) more) → (is_away p at v ≡ false → FarFrom (clock_key v) more)
      → Means default (form_of v) out w
  clock_means default w0 w m same value added far = elim (bool_cases (is_away p at v)) [
    | inl y ↦
        subst (λ (o : Option (List ℕ)). Means default (form_of v) o w) (sym (away_as (lookup es (clock_key v)) refl y (λ n. added n y)))
        (back.value_read (clock_at p.clock at) range v ∙ ap Some value)
    | inr n ↦
        subst (λ (o : Option (List ℕ)). Means default (form_of v) o w) (home_as default w0 (lookup es (clock_key v)) refl n m (far n))
        (subst (λ (x : ℕ). Means default (form_of v) (lookup es (clock_key v)) x) (same n) m)
  ]

-- ---- the values of a choice

source_back : (n : ℕ) → n ≤ 2 → source_number (source_of n) ≡ n
source_back zero l = refl
source_back (suc zero) l = refl
source_back (suc (suc zero)) l = refl
source_back (suc (suc (suc n))) l = absurd (omega (arith, l))

pub value_is : (p : ProblemParts) (at : List ℕ) → clock_value p.clock at 0 ≤ 2 → clock_value p.clock at 1 ≤ 1 → (v : Variable) → value_in (clock_at p.clock at) v ≡ clock_value p.clock at (number_of v)
unfolding clock_at
value_is p at l m variable.System = source_back (clock_value p.clock at 0) l
value_is p at l m variable.Input = source_back (clock_value p.clock at 1) (omega (arith, m))
value_is p at l m variable.Ahb = refl
value_is p at l m variable.P = refl
value_is p at l m variable.M = refl
value_is p at l m variable.N = refl
value_is p at l m variable.Q = refl
value_is p at l m variable.Apb1 = refl
value_is p at l m variable.Apb2 = refl
