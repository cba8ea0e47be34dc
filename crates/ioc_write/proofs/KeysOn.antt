-- The numbers and the clock variables on the lines are those of their entries.
use Rattle.std.proofs.Common.{◌≡◌, ℕ, ◌+◌, ◌<◌, ◌≤◌, ◌==◌, ◌||◌, List, [], ◌∷◌, ◌++◌, drop, map, max, Bool, true, false, cond, Option, Some, None, refl, sym, ap, ◌∙◌, subst, arith}
use Rattle.std.specs.Option.{option_to_list}
use Rattle.std.proofs.lemmas.Bool.Decides.{nat_tests}
use Rattle.res_base.specs.Lists.{Each}
use Rattle.ioc_text.specs.Lines.{is_named, pin_number, undone}
use Rattle.ioc_lines.specs.Entries.{Entry, entries, entry_if, entry_of, valued}
use Rattle.ioc_lines.specs.Lines.{Keyed, TextLine, keyed}
use Rattle.ioc_lines.proofs.DivideLemmas.{has}
use Rattle.ioc_lines.proofs.LineLemmas.{no_entry}
use Rattle.ioc_lines.proofs.TextCuts.{says_on}
use Rattle.ioc_write.specs.WriteBack.{has_variable, next_number, number_of, number_on, pin_numbers, variable_of, variable_on, variables_on}
use Rattle.ioc_write.specs.declared.variable.Variable.{Variable}

key_by : (key : List ℕ) (named : Bool) (o : Option (List ℕ)) (e : Entry) → cond named (valued key o) None ≡ Some e → e.0 ≡ key
key_by key false o e h = absurd cc
key_by key true None e h = absurd cc
key_by key true (Some v) e h = ap key_in (sym h)
  where
    key_in : Option Entry → List ℕ
    key_in None = key
    key_in (Some x) = x.0

entry_key : (says : List ℕ) (k : Keyed) → keyed says ≡ Some k → (e : Entry) → entry_of says ≡ Some e → e.0 ≡ k.key
unfolding entry_of
entry_key says k h e q =
    let s = has says k h in
    key_by k.key (is_named k.key) (undone (drop (k.equals + 1) says)) e (rw (s.loud, s.at, s.read) at q)

-- the key of a line with an entry
pub record KeyedBy (says : List ℕ) (e : Entry) : Type 0 where
  pub by : Keyed
  pub is : keyed says ≡ Some by
  pub same : by.key ≡ e.0

keyed_with : (says : List ℕ) (e : Entry) (o : Option Keyed) → keyed says ≡ o → entry_of says ≡ Some e → KeyedBy says e
keyed_with says e None h q = let f : None ≡ Some e = sym (no_entry says h) ∙ q in absurd cc
keyed_with says e (Some k) h q = record { by = k; is = h; same = sym (entry_key says k h e q) }

each_one : (P : Entry → Type 0) (o : Option Entry) (es : List Entry) → ((e : Entry) → o ≡ Some e → P e) → Each P es → Each P (entry_if o ++ es)
each_one P None es f h = h
each_one P (Some e) es f h = (f e refl, h)

each_map : (P Q : Entry → Type 0) (es : List Entry) → ((e : Entry) → P e → Q e) → Each P es → Each Q es
each_map P Q [] f h = tt
each_map P Q (e ∷ es) f h = (f e h.0, each_map P Q es f h.1)

-- ---- numbers

abbrev pub IsBelow : ℕ → Entry → Type 0
IsBelow n e = (m : ℕ) → pin_number e.0 ≡ Some m → m < n

more_numbers : (o : Option ℕ) (ns : List ℕ) → next_number ns ≤ next_number (option_to_list o ++ ns)
more_numbers None ns = omega arith
more_numbers (Some n) ns = omega arith

one_number : (says : List ℕ) (e : Entry) (m : ℕ) (ns : List ℕ) → KeyedBy says e → pin_number e.0 ≡ Some m → m < next_number (option_to_list (number_on (keyed says)) ++ ns)
one_number says e m ns k q =
    let is : number_on (keyed says) ≡ Some m = ap number_on k.is ∙ ap pin_number k.same ∙ q in
    let l : m < max (m + 1) (next_number ns) = omega arith in
    subst (λ (o : Option ℕ). m < next_number (option_to_list o ++ ns)) (sym is) l

pub numbers_below : (ls : List TextLine) → Each (IsBelow (next_number (pin_numbers ls))) (entries (map says_on ls))
numbers_below [] = tt
numbers_below (l ∷ ls) =
    let n = next_number (pin_numbers (l ∷ ls)) in
    let up = more_numbers (number_on (keyed l.says)) (pin_numbers ls) in
    each_one (IsBelow n) (entry_of l.says) (entries (map says_on ls))
    (λ e h m q. one_number l.says e m (pin_numbers ls) (keyed_with l.says e (keyed l.says) refl h) q)
    (each_map (IsBelow (next_number (pin_numbers ls))) (IsBelow n) (entries (map says_on ls)) (λ e h m q. (let b = h m q in omega (arith, b, up))) (numbers_below ls))

-- ---- clock variables

abbrev pub HasVariable : List Variable → Entry → Type 0
HasVariable vs e = (v : Variable) → variable_of e.0 ≡ Some v → has_variable vs v ≡ true

or_right : (a b : Bool) → b ≡ true → a || b ≡ true
or_right true b e = refl
or_right false b e = e

more_variables : (o : Option Variable) (vs : List Variable) (v : Variable) → has_variable vs v ≡ true → has_variable (option_to_list o ++ vs) v ≡ true
more_variables None vs v h = h
more_variables (Some w) vs v h = or_right (number_of w == number_of v) (has_variable vs v) h

one_variable : (says : List ℕ) (e : Entry) (v : Variable) (vs : List Variable) → KeyedBy says e → variable_of e.0 ≡ Some v → has_variable (option_to_list (variable_on (keyed says)) ++ vs) v ≡ true
one_variable says e v vs k q =
    let is : variable_on (keyed says) ≡ Some v = ap variable_on k.is ∙ ap variable_of k.same ∙ q in
    let yes : (number_of v == number_of v) ≡ true = grind (arith, nat_tests) in
    let here : has_variable (v ∷ vs) v ≡ true = rw yes refl in
    subst (λ (o : Option Variable). has_variable (option_to_list o ++ vs) v ≡ true) (sym is) here

pub variables_had : (ls : List TextLine) → Each (HasVariable (variables_on ls)) (entries (map says_on ls))
variables_had [] = tt
variables_had (l ∷ ls) =
    let vs = variables_on (l ∷ ls) in
    each_one (HasVariable vs) (entry_of l.says) (entries (map says_on ls))
    (λ e h v q. one_variable l.says e v (variables_on ls) (keyed_with l.says e (keyed l.says) refl h) q)
    (each_map (HasVariable (variables_on ls)) (HasVariable vs) (entries (map says_on ls)) (λ e h v q. more_variables (variable_on (keyed l.says)) (variables_on ls) v (h v q)) (variables_had ls))
