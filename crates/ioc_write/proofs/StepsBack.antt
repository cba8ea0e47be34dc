-- What is written reads back, where the lines of its pins put the signals at their places.
use Rattle.std.proofs.Common.{◌≡◌, ◌≢◌, ◌⊎◌, ℕ, zero, suc, ◌+◌, ◌%◌, ◌^◌, ◌<◌, ◌≤◌, ◌==◌, List, [], ◌∷◌, ◌++◌, drop, length, map, Bool, true, false, not, Option, Some, None, Result, Ok, refl, sym, ap, ◌∙◌, subst, inl, inr, arith}
use Rattle.std.specs.Prelude.{codes, decimal, is_some, slice_index, slice_index_or}
use Rattle.std.specs.Str.{bytes_eq}
use Rattle.std.proofs.lemmas.Fmt.{decimal_by_steps}
use Rattle.std.proofs.lemmas.Slice.Eq.{bytes_eq-Decides}
use Rattle.res_base.specs.Lists.{Each, Member, Pairwise}
use Rattle.res_base.proofs.ListLemmas.{member_right}
use Rattle.res_base.proofs.SumLemmas.{bool_cases}
use Rattle.choice_rank.specs.Choices.{IsChoice, cost_at}
use Rattle.choice_rank.specs.declared.variable.VarShape.{VarShape}
use Rattle.res_model.proofs.NumberLaws.{number_is}
use Rattle.res_model.specs.Clock.{IsInRange}
use Rattle.res_model.specs.Numbers.{number_of}
use Rattle.res_model.specs.Placement.{fits}
use Rattle.res_model.specs.Valid.{IsValid}
use Rattle.res_model.specs.Values.{pin_variables}
use Rattle.res_model.specs.declared.opts.Opts.{Opts}
use Rattle.res_model.specs.declared.project.Home.{Home}
use Rattle.res_model.specs.declared.project.Project.{Project}
use Rattle.res_model.specs.declared.project.Signal.{Signal}
use Rattle.res_model.specs.declared.table.PinUse.{PinUse}
use Rattle.res_model.specs.declared.table.TableParts.{TableParts}
use Rattle.ioc_text.specs.Lines.{line_at, pin_number}
use Rattle.ioc_text.specs.declared.line.Line.{Line}
use Rattle.ioc_project.specs.Project.{fixes_clock, hertz_of, hse_of, kept_of, named_package, named_part, part_of, pin_lines, truth_of, value_or, well_formed}
use Rattle.ioc_project.specs.declared.fault.ProjectFault.{ProjectFault}
use Rattle.problem.specs.ClockValues.{clock_at, clock_domains, clock_value, clock_values, clock_variables, nowhere}
use Rattle.problem.specs.Problem.{AreFrom, IsProblem, problem_of, shape_of}
use Rattle.problem.specs.declared.parts.ProblemParts.{ProblemParts}
use Rattle.ioc_lines.specs.Again.{HomesMean, SaysAgain, values_due}
use Rattle.ioc_lines.specs.Entries.{Entry, entries, entry_on, lines_from, lookup, value_of}
use Rattle.ioc_lines.specs.Lines.{pin_part, text_lines}
use Rattle.ioc_lines.specs.Standing.{Means, PutAll}
use Rattle.ioc_lines.proofs.EntryLemmas.{both}
use Rattle.ioc_lines.proofs.LookupLemmas.{entries_on, line_value, out_lookup}
use Rattle.ioc_lines.proofs.ProjectLemmas.{read_again}
use Rattle.ioc_lines.proofs.TextCuts.{says_on}
use Rattle.ioc_write.specs.Back.{form_of}
use Rattle.ioc_write.specs.ReadsBack.{IsOfText, IsReadWithClocks, PutsBack, ReadsBack, places}
use Rattle.ioc_write.specs.WriteBack.{clock_key, has_variable, is_away, next_number, no_variable, pin_name, pin_numbers, pins_written, uses_of, variable_of, variables, variables_on, written_back}
use Rattle.ioc_write.specs.WriteBack as write
use Rattle.ioc_write.specs.declared.variable.Variable.{Variable}
use Rattle.ioc_write.specs.declared.variable.Variable.TheVariants as variable
use Rattle.ioc_write.proofs.AppendLemmas.{clock_entries, need_entries, needs_in, pin_key}
use Rattle.ioc_write.proofs.ApartLemmas.{FarFrom, all_clocks, far_clock, other_first, signal_first}
use Rattle.ioc_write.proofs.ChangeLemmas.{by_same, special_count, with_count}
use Rattle.ioc_write.proofs.CleanLemmas.{hertz_ends, is_decimal, package_ends, part_ends, print_ends, truth_ends}
use Rattle.ioc_write.proofs.ClocksBack.{both_true, clock_far, clock_means, clock_member, has_entry, member_variable, value_is}
use Rattle.ioc_write.proofs.HomesBack.{HomesWere, at_home, fixed_home, home_value, homes_were}
use Rattle.ioc_write.proofs.LineBack.{decimal_value}
use Rattle.ioc_write.proofs.LookBack.{DoesNotEndInCr, IsPlainKey, lookup_none, lookup_to, stays}
use Rattle.ioc_write.proofs.OutLemmas.{OutSays, Suits, TextSays, all_needs, appended_entries, inside_moves, out_says, set_of, text_says}
use Rattle.ioc_write.proofs.SuitLemmas.{WasRead, suits, was_read}
use Rattle.problem.proofs.ChoiceUses.{drop_choice, length_uses}

decimal_low : (n : ℕ) → n < 2 ^ 64 → Each (λ (b : ℕ). b ≤ 57) (decimal n)
decimal_low = decimal_by_steps (λ m ds. Each (λ (b : ℕ). b ≤ 57) ds) (λ m l. (omega arith, tt)) (λ m ds l h. low_push ds (48 + m % 10) h (omega arith))
  where
    low_push : (xs : List ℕ) (y : ℕ) → Each (λ (b : ℕ). b ≤ 57) xs → y ≤ 57 → Each (λ (b : ℕ). b ≤ 57) (xs ++ y ∷ [])
    low_push [] y h l = (l, tt)
    low_push (x ∷ xs) y h l = (h.0, low_push xs y h.1 l)

no_decimal : (n : ℕ) → n < 2 ^ 64 → codes "sNb" ≡ decimal n → ⊥
no_decimal n l e =
    let low : Each (λ (b : ℕ). b ≤ 57) (codes "sNb") = subst (Each (λ (b : ℕ). b ≤ 57)) (sym e) (decimal_low n l) in
    let first : 115 ≤ 57 = low.0 in
    omega (arith, first)

-- ---- keys of the whole project are none that are appended

other_bytes : (a b : List ℕ) → bytes_eq a b ≡ false → a ≢ b
other_bytes a b e s = let yes : bytes_eq a b ≡ true = (bytes_eq-Decides a b).1 s in absurd cc

-- a key that is that of no need and of no clock variable
pub record IsOther (key : List ℕ) : Type 0 where
  pub pin : (j : ℕ) → j < 2 ^ 64 → key ≢ pin_key j
  pub signal : (bs : List ℕ) → key ≡ 80 ∷ bs → ⊥
  pub clock : (v : Variable) → key ≢ clock_key v

module _ (p : ProblemParts) (at : List ℕ) (s : Suits p at) (k : ℕ) (keys : List Variable) (room : k + needs_in p.signals ≤ 2 ^ 64) where
  far_both : (key : List ℕ) (xs ys : List Entry) → FarFrom key xs → FarFrom key ys → FarFrom key (xs ++ ys)
  far_both key [] ys h g = g
  far_both key (x ∷ xs) ys h g = (h.0, far_both key xs ys h.1 g)

  pub far_other : (key : List ℕ) → IsOther key → FarFrom key (appended_entries p at k keys)
  far_other key o = far_both key (need_entries p.tables k p.signals (uses_of p at)) (clock_entries p at keys variables)
      (all_needs p.tables (λ (x : List ℕ). key ≢ x) p.signals (uses_of p at) k (λ j l b. o.pin j b)
      (λ m i n e. (let b = signal_first p.tables s.are m.1.pin (inside_moves (length p.tables.pins) p.signals (uses_of p at) m s.within i) in o.signal b.0 (e ∙ b.1))) room)
      (all_clocks p at keys (λ (x : List ℕ). key ≢ x) variables (λ v y. o.clock v))

  pub far_variable : (v : Variable) → is_away p at v ≡ false → FarFrom (clock_key v) (appended_entries p at k keys)
  far_variable v n = far_both (clock_key v) (need_entries p.tables k p.signals (uses_of p at)) (clock_entries p at keys variables)
      (far_clock p.tables s.are v p.signals (uses_of p at) k s.within) (clock_far p at keys v n variables)

no_clock_name : (v : Variable) → codes "Mcu.Name" ≢ clock_key v
no_clock_name variable.System = other_bytes (codes "Mcu.Name") (codes "RCC.SYSCLKSource") refl
no_clock_name variable.Input = other_bytes (codes "Mcu.Name") (codes "RCC.PLLSourceVirtual") refl
no_clock_name variable.Ahb = other_bytes (codes "Mcu.Name") (codes "RCC.AHBCLKDivider") refl
no_clock_name variable.P = other_bytes (codes "Mcu.Name") (codes "RCC.PLLP") refl
no_clock_name variable.M = other_bytes (codes "Mcu.Name") (codes "RCC.PLLM") refl
no_clock_name variable.N = other_bytes (codes "Mcu.Name") (codes "RCC.PLLN") refl
no_clock_name variable.Q = other_bytes (codes "Mcu.Name") (codes "RCC.PLLQ") refl
no_clock_name variable.Apb1 = other_bytes (codes "Mcu.Name") (codes "RCC.APB1CLKDivider") refl
no_clock_name variable.Apb2 = other_bytes (codes "Mcu.Name") (codes "RCC.APB2CLKDivider") refl

name_other : IsOther (codes "Mcu.Name")
name_other = record {
  pin = λ j l. other_bytes (codes "Mcu.Name") (pin_key j) refl;
  signal = λ bs e. (let f : ◌≡◌ {A = ℕ} 77 80 = other_first 77 80 (codes "cu.Name") bs e in omega (arith, f));
  clock = no_clock_name;
}

name_plain : IsPlainKey (codes "Mcu.Name")
unfolding pin_number variable_of pin_part
name_plain = record { number = refl; count = refl; variable = refl; part = λ bs e. (let f : ◌≡◌ {A = ℕ} 77 80 = other_first 77 80 (codes "cu") bs e in omega (arith, f)) }

no_clock_box : (v : Variable) → codes "Mcu.Package" ≢ clock_key v
no_clock_box variable.System = other_bytes (codes "Mcu.Package") (codes "RCC.SYSCLKSource") refl
no_clock_box variable.Input = other_bytes (codes "Mcu.Package") (codes "RCC.PLLSourceVirtual") refl
no_clock_box variable.Ahb = other_bytes (codes "Mcu.Package") (codes "RCC.AHBCLKDivider") refl
no_clock_box variable.P = other_bytes (codes "Mcu.Package") (codes "RCC.PLLP") refl
no_clock_box variable.M = other_bytes (codes "Mcu.Package") (codes "RCC.PLLM") refl
no_clock_box variable.N = other_bytes (codes "Mcu.Package") (codes "RCC.PLLN") refl
no_clock_box variable.Q = other_bytes (codes "Mcu.Package") (codes "RCC.PLLQ") refl
no_clock_box variable.Apb1 = other_bytes (codes "Mcu.Package") (codes "RCC.APB1CLKDivider") refl
no_clock_box variable.Apb2 = other_bytes (codes "Mcu.Package") (codes "RCC.APB2CLKDivider") refl

box_other : IsOther (codes "Mcu.Package")
box_other = record {
  pin = λ j l. other_bytes (codes "Mcu.Package") (pin_key j) refl;
  signal = λ bs e. (let f : ◌≡◌ {A = ℕ} 77 80 = other_first 77 80 (codes "cu.Package") bs e in omega (arith, f));
  clock = no_clock_box;
}

box_plain : IsPlainKey (codes "Mcu.Package")
unfolding pin_number variable_of pin_part
box_plain = record { number = refl; count = refl; variable = refl; part = λ bs e. (let f : ◌≡◌ {A = ℕ} 77 80 = other_first 77 80 (codes "cu") bs e in omega (arith, f)) }

no_clock_keep : (v : Variable) → codes "KeepUserPlacement" ≢ clock_key v
no_clock_keep variable.System = other_bytes (codes "KeepUserPlacement") (codes "RCC.SYSCLKSource") refl
no_clock_keep variable.Input = other_bytes (codes "KeepUserPlacement") (codes "RCC.PLLSourceVirtual") refl
no_clock_keep variable.Ahb = other_bytes (codes "KeepUserPlacement") (codes "RCC.AHBCLKDivider") refl
no_clock_keep variable.P = other_bytes (codes "KeepUserPlacement") (codes "RCC.PLLP") refl
no_clock_keep variable.M = other_bytes (codes "KeepUserPlacement") (codes "RCC.PLLM") refl
no_clock_keep variable.N = other_bytes (codes "KeepUserPlacement") (codes "RCC.PLLN") refl
no_clock_keep variable.Q = other_bytes (codes "KeepUserPlacement") (codes "RCC.PLLQ") refl
no_clock_keep variable.Apb1 = other_bytes (codes "KeepUserPlacement") (codes "RCC.APB1CLKDivider") refl
no_clock_keep variable.Apb2 = other_bytes (codes "KeepUserPlacement") (codes "RCC.APB2CLKDivider") refl

keep_other : IsOther (codes "KeepUserPlacement")
keep_other = record {
  pin = λ j l. other_bytes (codes "KeepUserPlacement") (pin_key j) refl;
  signal = λ bs e. (let f : ◌≡◌ {A = ℕ} 75 80 = other_first 75 80 (codes "eepUserPlacement") bs e in omega (arith, f));
  clock = no_clock_keep;
}

keep_plain : IsPlainKey (codes "KeepUserPlacement")
unfolding pin_number variable_of pin_part
keep_plain = record { number = refl; count = refl; variable = refl; part = λ bs e. absurd cc }

no_clock_hse : (v : Variable) → codes "RCC.HSE_VALUE" ≢ clock_key v
no_clock_hse variable.System = other_bytes (codes "RCC.HSE_VALUE") (codes "RCC.SYSCLKSource") refl
no_clock_hse variable.Input = other_bytes (codes "RCC.HSE_VALUE") (codes "RCC.PLLSourceVirtual") refl
no_clock_hse variable.Ahb = other_bytes (codes "RCC.HSE_VALUE") (codes "RCC.AHBCLKDivider") refl
no_clock_hse variable.P = other_bytes (codes "RCC.HSE_VALUE") (codes "RCC.PLLP") refl
no_clock_hse variable.M = other_bytes (codes "RCC.HSE_VALUE") (codes "RCC.PLLM") refl
no_clock_hse variable.N = other_bytes (codes "RCC.HSE_VALUE") (codes "RCC.PLLN") refl
no_clock_hse variable.Q = other_bytes (codes "RCC.HSE_VALUE") (codes "RCC.PLLQ") refl
no_clock_hse variable.Apb1 = other_bytes (codes "RCC.HSE_VALUE") (codes "RCC.APB1CLKDivider") refl
no_clock_hse variable.Apb2 = other_bytes (codes "RCC.HSE_VALUE") (codes "RCC.APB2CLKDivider") refl

hse_other : IsOther (codes "RCC.HSE_VALUE")
hse_other = record {
  pin = λ j l. other_bytes (codes "RCC.HSE_VALUE") (pin_key j) refl;
  signal = λ bs e. (let f : ◌≡◌ {A = ℕ} 82 80 = other_first 82 80 (codes "CC.HSE_VALUE") bs e in omega (arith, f));
  clock = no_clock_hse;
}

hse_plain : IsPlainKey (codes "RCC.HSE_VALUE")
unfolding pin_number variable_of pin_part
hse_plain = record { number = refl; count = refl; variable = refl; part = λ bs e. (let f : ◌≡◌ {A = ℕ} 82 80 = other_first 82 80 (codes "CC") bs e in omega (arith, f)) }

no_clock_count : (v : Variable) → codes "Mcu.PinsNb" ≢ clock_key v
no_clock_count variable.System = other_bytes (codes "Mcu.PinsNb") (codes "RCC.SYSCLKSource") refl
no_clock_count variable.Input = other_bytes (codes "Mcu.PinsNb") (codes "RCC.PLLSourceVirtual") refl
no_clock_count variable.Ahb = other_bytes (codes "Mcu.PinsNb") (codes "RCC.AHBCLKDivider") refl
no_clock_count variable.P = other_bytes (codes "Mcu.PinsNb") (codes "RCC.PLLP") refl
no_clock_count variable.M = other_bytes (codes "Mcu.PinsNb") (codes "RCC.PLLM") refl
no_clock_count variable.N = other_bytes (codes "Mcu.PinsNb") (codes "RCC.PLLN") refl
no_clock_count variable.Q = other_bytes (codes "Mcu.PinsNb") (codes "RCC.PLLQ") refl
no_clock_count variable.Apb1 = other_bytes (codes "Mcu.PinsNb") (codes "RCC.APB1CLKDivider") refl
no_clock_count variable.Apb2 = other_bytes (codes "Mcu.PinsNb") (codes "RCC.APB2CLKDivider") refl

count_other : IsOther (codes "Mcu.PinsNb")
count_other = record {
  pin = λ j l e. (let f : codes "sNb" ≡ decimal j = ap (λ (x : List ℕ). drop 7 x) e in no_decimal j l f);
  signal = λ bs e. (let f : ◌≡◌ {A = ℕ} 77 80 = other_first 77 80 (codes "cu.PinsNb") bs e in omega (arith, f));
  clock = no_clock_count;
}

-- ---- what values were read of those keys

formed_as : {X : Type 0} (n : ℕ) (o : Option X) (x : X) → well_formed n o ≡ Ok x → o ≡ Some x
formed_as n None x e = absurd cc
formed_as n (Some y) x e = ap Some (ok_is y x e)
  where
    ok_is : {X : Type 0} (a b : X) → (let r : Result X ProjectFault = Ok a in r) ≡ Ok b → a ≡ b
    ok_is a b e = cc

read_as : {X : Type 0} (absent : X) (form : List ℕ → Option X) (o : Option Line) (x : X) (v : List ℕ) → value_or absent form o ≡ Ok x → value_of o ≡ Some v → form v ≡ Some x
read_as absent form None x v e q = absurd cc
read_as absent form (Some l) x v e q = let is : v ≡ l.value = cc in ap form is ∙ formed_as l.number (form l.value) x e

module _ (t : TableParts) (valid : IsValid t) (ioc : List Line) (opts : Opts) (p : Project) (w : WasRead t ioc opts p) where
  value_line : (key v : List ℕ) → lookup (map entry_on ioc) key ≡ Some v → value_of (line_at ioc key) ≡ Some v
  value_line key v e = line_value ioc key ∙ e

  pub name_ends : (v : List ℕ) → lookup (map entry_on ioc) (codes "Mcu.Name") ≡ Some v → DoesNotEndInCr v
  unfolding part_of
  name_ends v e =
      let s = both (named_part t (line_at ioc (codes "Mcu.Name"))) (λ part. named_package t (line_at ioc (codes "Mcu.Package"))) tt w.part in
      part_ends t valid.names (line_at ioc (codes "Mcu.Name")) v s.1 (value_line (codes "Mcu.Name") v e)

  pub box_ends : (v : List ℕ) → lookup (map entry_on ioc) (codes "Mcu.Package") ≡ Some v → DoesNotEndInCr v
  unfolding part_of
  box_ends v e =
      let s = both (named_part t (line_at ioc (codes "Mcu.Name"))) (λ part. named_package t (line_at ioc (codes "Mcu.Package"))) tt w.part in
      package_ends t valid.«package» (line_at ioc (codes "Mcu.Package")) v s.2 (value_line (codes "Mcu.Package") v e)

  pub keep_ends : (v : List ℕ) → lookup (map entry_on ioc) (codes "KeepUserPlacement") ≡ Some v → DoesNotEndInCr v
  unfolding kept_of
  keep_ends v e =
      let s = both (value_or 0 number_of (line_at ioc (codes "Mcu.PinsNb"))) (λ pins. value_or false truth_of (line_at ioc (codes "KeepUserPlacement"))) w.kept w.keeps in
      truth_ends v w.kept (read_as false truth_of (line_at ioc (codes "KeepUserPlacement")) w.kept v s.2 (value_line (codes "KeepUserPlacement") v e))

  pub hse_ends : (v : List ℕ) → lookup (map entry_on ioc) (codes "RCC.HSE_VALUE") ≡ Some v → DoesNotEndInCr v
  unfolding hse_of
  hse_ends v e = hertz_ends v w.hertz (read_as t.hse_hz hertz_of (line_at ioc (codes "RCC.HSE_VALUE")) w.hertz v w.hse (value_line (codes "RCC.HSE_VALUE") v e))

-- ---- the places of the signals

place_far : (u : PinUse) (name : List ℕ) (ss : List Signal) (us : List PinUse) → Each (λ (w : PinUse). (u.pin ≡ w.pin) → ⊥) us → Each (λ (b : ℕ × List ℕ). (u.pin ≡ b.0) → ⊥) (places ss us)
place_far u name [] us h = tt
place_far u name (s ∷ ss) [] h = tt
place_far u name (s ∷ ss) (w ∷ us) h = (h.0, place_far u name ss us h.1)

pub places_apart : (ss : List Signal) (us : List PinUse) → Pairwise (λ (u w : PinUse). (u.pin ≡ w.pin) → ⊥) us → Pairwise (λ (a b : ℕ × List ℕ). (a.0 ≡ b.0) → ⊥) (places ss us)
places_apart [] us h = tt
places_apart (s ∷ ss) [] h = tt
places_apart (s ∷ ss) (u ∷ us) h = (place_far u s.name ss us h.0, places_apart ss us h.1)

pub places_few : (ss : List Signal) (us : List PinUse) → length (places ss us) ≤ length ss
places_few [] us = omega arith
places_few (s ∷ ss) [] = omega arith
places_few (s ∷ ss) (u ∷ us) = let l = places_few ss us in omega (arith, l)

pub places_named : (ss : List Signal) (us : List PinUse) → length us ≡ length ss → map (λ (a : ℕ × List ℕ). a.1) (places ss us) ≡ map (λ (s : Signal). s.name) ss
places_named [] us e = refl
places_named (s ∷ ss) [] e = absurd (omega (arith, e))
places_named (s ∷ ss) (u ∷ us) e = ap (λ (x : List (List ℕ)). s.name ∷ x) (places_named ss us (omega (arith, e)))

pub places_at : (ss : List Signal) (us : List PinUse) → length us ≡ length ss → map (λ (a : ℕ × List ℕ). Some a.0) (places ss us) ≡ map (λ (u : PinUse). Some u.pin) us
places_at [] [] e = refl
places_at [] (u ∷ us) e = absurd (omega (arith, e))
places_at (s ∷ ss) [] e = refl
places_at (s ∷ ss) (u ∷ us) e = ap (λ (x : List (Option ℕ)). Some u.pin ∷ x) (places_at ss us (omega (arith, e)))

-- ---- the key of the number of pins

count_number : is_some (pin_number (codes "Mcu.PinsNb")) ≡ false
unfolding pin_number
count_number = by (number_of (codes "sNb")) refl
  where
    by : (o : Option ℕ) → number_of (codes "sNb") ≡ o → is_some (number_of (codes "sNb")) ≡ false
    by None e = ap is_some e
    by (Some n) e = let d = is_decimal (codes "sNb") n e in absurd (no_decimal n d.1 d.0)

-- ---- values by their places

value_at : (hs : List Home) (vs : List ℕ) (k : ℕ) → map (λ (h : Home). h.value) hs ≡ vs → k < length vs → (slice_index_or hs k nowhere).value ≡ slice_index vs k
value_at [] [] k e l = absurd (omega arith)
value_at [] (v ∷ vs) k e l = absurd cc
value_at (h ∷ hs) [] k e l = absurd cc
value_at (h ∷ hs) (v ∷ vs) zero e l = cc
value_at (h ∷ hs) (v ∷ vs) (suc k) e l = let more : map (λ (x : Home). x.value) hs ≡ vs = cc in value_at hs vs k more (omega arith)

at_most_by : (n : ℕ) (xs : List ℕ) (k : ℕ) → Each (λ (v : ℕ). v ≤ n) xs → slice_index xs k ≤ n
at_most_by n [] k h = omega arith
at_most_by n (x ∷ xs) zero h = h.0
at_most_by n (x ∷ xs) (suc k) h = at_most_by n xs k h.1

each_most : (n : ℕ) (these xs : List ℕ) → ((v : ℕ) → Member v these → v ≤ n) → Each (λ (v : ℕ). Member v these) xs → Each (λ (v : ℕ). v ≤ n) xs
each_most n these [] f h = tt
each_most n these (x ∷ xs) f h = (f x h.0, each_most n these xs f h.1)

three : (v : ℕ) → Member v (0 ∷ 1 ∷ 2 ∷ []) → v ≤ 2
three v (inl e) = omega (arith, e)
three v (inr (inl e)) = omega (arith, e)
three v (inr (inr (inl e))) = omega (arith, e)
three v (inr (inr (inr e))) = absurd e

two : (v : ℕ) → Member v (0 ∷ 1 ∷ []) → v ≤ 1
two v (inl e) = omega (arith, e)
two v (inr (inl e)) = omega (arith, e)
two v (inr (inr e)) = absurd e

pub sources : (t : TableParts) (clock : List (List ℕ)) (at : List ℕ) → AreFrom clock (clock_domains t) → (clock_value clock at 0 ≤ 2) × (clock_value clock at 1 ≤ 1)
unfolding clock_domains
sources t [] at h = absurd h
sources t (xs ∷ []) at h = absurd h.1
sources t (xs ∷ ys ∷ rest) at h = (at_most_by 2 xs (slice_index at 0) (each_most 2 (0 ∷ 1 ∷ 2 ∷ []) xs three h.0), at_most_by 1 ys (slice_index at 1) (each_most 1 (0 ∷ 1 ∷ []) ys two h.1.0))

not_false : (b : Bool) → not b ≡ false → b ≡ true
not_false true e = refl
not_false false e = absurd cc

-- ---- the whole

module _ (text : List ℕ) (opts : Opts) (p : ProblemParts) (at out : List ℕ) (valid : IsValid p.tables) (agree : IsProblem p) (choice : IsChoice p.shape at) (fit : fits p.tables (uses_of p at) ≡ true)
    (range : IsInRange (clock_at p.clock at)) (few : pins_written p (text_lines text) < 2 ^ 64) (i : IsOfText text opts p) (wrote : written_back text p at ≡ Ok out) where
  pub s : Suits p at
  s = suits text opts p at valid agree fit range i

  pub o : OutSays text p at out
  o = out_says text p at out i.lines s few i.are_lines wrote

  pub t : TextSays text i.lines
  t = text_says text i.lines i.are_lines

  pub was : WasRead p.tables i.lines opts i.project
  was = was_read p.tables i.lines opts i.project i.is_read

  abbrev pub k : ℕ
  k = next_number (pin_numbers (text_lines text))

  abbrev pub keys : List Variable
  keys = variables_on (text_lines text)

  abbrev pub pins : ℕ
  pins = pins_written p (text_lines text)

  abbrev pub es : List Entry
  es = entries (map says_on (text_lines text))

  abbrev pub more : List Entry
  more = appended_entries p at k keys

  abbrev pub back : List Line
  back = lines_from 1 o.says

  pub before_is : map entry_on i.lines ≡ es
  before_is = ap (map entry_on) t.found_is ∙ entries_on 1 (map says_on (text_lines text))

  pub after_is : map entry_on back ≡ o.prefix ++ more
  after_is = entries_on 1 o.says ∙ o.is

  plain_stays : (key : List ℕ) → IsPlainKey key → IsOther key → ((v : List ℕ) → lookup (map entry_on i.lines) key ≡ Some v → DoesNotEndInCr v) → lookup (map entry_on i.lines) key ≡ lookup (map entry_on back) key
  plain_stays key plain other ends =
      ap (λ (x : List Entry). lookup x key) before_is
      ∙ stays p at (set_of p at s) pins es o.prefix more t.apart o.near o.apart key plain (far_other p at s k keys o.room key other)
      (λ v e. ends v (ap (λ (x : List Entry). lookup x key) before_is ∙ e))
      ∙ sym (ap (λ (x : List Entry). lookup x key) after_is)

  abbrev CountIs : Option (List ℕ) → Type 0
  CountIs r = (r ≡ None) ⊎ ((v : List ℕ) × (n : ℕ) × (r ≡ Some v) × (number_of v ≡ Some n))

  count_by : (r : Option (List ℕ)) → lookup es (codes "Mcu.PinsNb") ≡ r → CountIs (lookup (o.prefix ++ more) (codes "Mcu.PinsNb"))
  count_by None e = inl (lookup_none p at (set_of p at s) pins es o.prefix more t.apart o.near o.apart (codes "Mcu.PinsNb") (by_same refl (special_count (codes "Mcu.PinsNb") refl)) e
      (far_other p at s k keys o.room (codes "Mcu.PinsNb") count_other))
  count_by (Some v) e = inr (
    decimal pins,
    pins,
    lookup_to p at (set_of p at s) pins es o.prefix more t.apart o.near o.apart (codes "Mcu.PinsNb") v (decimal pins) e (with_count p at pins (codes "Mcu.PinsNb", v) count_number refl)
        (print_ends (decimal pins) (decimal_value pins few).print),
    number_is (decimal pins) pins few refl,
  )

  -- ---- clocks

  pub shape_is : p.shape ≡ clock_variables (fixes_clock opts.free) (clock_domains p.tables) i.project.clock ++ pin_variables p.tables i.project.signals
  unfolding problem_of shape_of
  shape_is = ap (λ (x : ProblemParts). x.shape) i.is_problem

  clock_is : p.clock ≡ clock_values (fixes_clock opts.free) (clock_domains p.tables) i.project.clock
  unfolding problem_of
  clock_is = ap (λ (x : ProblemParts). x.clock) i.is_problem

  pub were : HomesWere p.tables i.lines i.project.clock
  were = homes_were p.tables i.lines i.project.clock was.homes

  pub domains_ten : length (clock_domains p.tables) ≡ 10
  unfolding clock_domains
  domains_ten = refl

  place_of_number : (v : Variable) → write.number_of v < 9
  place_of_number variable.System = omega arith
  place_of_number variable.Input = omega arith
  place_of_number variable.Ahb = omega arith
  place_of_number variable.P = omega arith
  place_of_number variable.M = omega arith
  place_of_number variable.N = omega arith
  place_of_number variable.Q = omega arith
  place_of_number variable.Apb1 = omega arith
  place_of_number variable.Apb2 = omega arith

  home_same : (v : Variable) → is_away p at v ≡ false → home_value i.project.clock (write.number_of v) ≡ clock_value p.clock at (write.number_of v)
  unfolding is_away
  home_same v e =
      let n = write.number_of v in
      let l = place_of_number v in
      let free : (cost_at (slice_index_or p.shape n no_variable).costs (slice_index at n) == 0) ≡ true = not_false (cost_at (slice_index_or p.shape n no_variable).costs (slice_index at n) == 0) e in
      let there = at_home (fixes_clock opts.free) n (clock_domains p.tables) i.project.clock (pin_variables p.tables i.project.signals) (slice_index at n) (omega (arith, l, domains_ten)) (omega (arith, l, were.ten))
      (subst (λ (x : List VarShape). (cost_at (slice_index_or x n no_variable).costs (slice_index at n) == 0) ≡ true) shape_is free) in
      sym (ap (λ (x : List (List ℕ)). slice_index (slice_index_or x n []) (slice_index at n)) clock_is ∙ there)

  added_where : (v : Variable) → lookup es (clock_key v) ≡ None → is_away p at v ≡ true → Member (clock_key v, write.spelled (clock_at p.clock at) v) more
  added_where v n y = elim (bool_cases (has_variable keys v)) [
    | inl h ↦ let e = has_entry v (text_lines text) t.each h in absurd (out_lookup es (clock_key v) e.value t.apart n e.member)
    | inr h ↦ member_right (clock_key v, write.spelled (clock_at p.clock at) v) (need_entries p.tables k p.signals (uses_of p at)) (clock_entries p at keys variables)
        (clock_member p at keys v variables (member_variable v) (both_true (is_away p at v) (has_variable keys v) y h))
  ]

  module _ (src : clock_value p.clock at 0 ≤ 2) (psrc : clock_value p.clock at 1 ≤ 1) where
    its_home : (v : Variable) (default : ℕ) → Means default (form_of v) (lookup (map entry_on i.lines) (clock_key v)) (home_value i.project.clock (write.number_of v))
        → Means default (form_of v) (lookup (map entry_on back) (clock_key v)) (clock_value p.clock at (write.number_of v))
    its_home v default m =
        subst (λ (x : List Entry). Means default (form_of v) (lookup x (clock_key v)) (clock_value p.clock at (write.number_of v))) (sym after_is)
        (clock_means p at (set_of p at s) pins es o.prefix more t.apart o.near o.apart range v default (home_value i.project.clock (write.number_of v)) (clock_value p.clock at (write.number_of v))
        (subst (λ (x : List Entry). Means default (form_of v) (lookup x (clock_key v)) (home_value i.project.clock (write.number_of v))) before_is m)
        (home_same v) (value_is p at src psrc v) (added_where v) (far_variable p at s k keys o.room v))

    clocks_mean : HomesMean p.tables (map entry_on back) (clock_value p.clock at)
    clocks_mean = record {
      src = its_home variable.System (slice_index p.tables.defaults 0) were.means.src;
      psrc = its_home variable.Input (slice_index p.tables.defaults 1) were.means.psrc;
      hpre = its_home variable.Ahb (slice_index p.tables.defaults 2) were.means.hpre;
      p = its_home variable.P (slice_index p.tables.defaults 3) were.means.p;
      m = its_home variable.M (slice_index p.tables.defaults 4) were.means.m;
      n = its_home variable.N (slice_index p.tables.defaults 5) were.means.n;
      q = its_home variable.Q (slice_index p.tables.defaults 6) were.means.q;
      ppre1 = its_home variable.Apb1 (slice_index p.tables.defaults 7) were.means.ppre1;
      ppre2 = its_home variable.Apb2 (slice_index p.tables.defaults 8) were.means.ppre2;
    }

    same_where_fixed : fixes_clock opts.free ≡ true → (n : ℕ) → n < 9 → home_value i.project.clock n ≡ clock_value p.clock at n
    same_where_fixed f n l =
        let shape : p.shape ≡ clock_variables true (clock_domains p.tables) i.project.clock ++ pin_variables p.tables i.project.signals = shape_is ∙ ap (λ (b : Bool). clock_variables b (clock_domains p.tables) i.project.clock ++ pin_variables p.tables i.project.signals) f in
        let values : p.clock ≡ clock_values true (clock_domains p.tables) i.project.clock = clock_is ∙ ap (λ (b : Bool). clock_values b (clock_domains p.tables) i.project.clock) f in
        sym (ap (λ (x : List (List ℕ)). slice_index (slice_index_or x n []) (slice_index at n)) values
        ∙ fixed_home n (clock_domains p.tables) i.project.clock (pin_variables p.tables i.project.signals) at (omega (arith, l, domains_ten)) (omega (arith, l, were.ten)) (subst (λ (x : List VarShape). IsChoice x at) shape choice))

    fixed_values : fixes_clock opts.free ≡ true → map (λ (h : Home). h.value) i.project.clock ≡ values_due p.tables (clock_value p.clock at)
    fixed_values f =
        let w = same_where_fixed f in
        let all : home_value i.project.clock 0 ∷ home_value i.project.clock 1 ∷ home_value i.project.clock 2 ∷ home_value i.project.clock 3 ∷ home_value i.project.clock 4 ∷ home_value i.project.clock 5 ∷ home_value i.project.clock 6 ∷ home_value i.project.clock 7 ∷ home_value i.project.clock 8 ∷ slice_index p.tables.defaults 9 ∷ [] ≡ values_due p.tables (clock_value p.clock at) =
        rw (w 0 (omega arith), w 1 (omega arith), w 2 (omega arith), w 3 (omega arith), w 4 (omega arith), w 5 (omega arith), w 6 (omega arith), w 7 (omega arith), w 8 (omega arith)) refl in
        were.values ∙ all

    -- the project reads back where its lines put the signals at their places
    module _ (many : length (uses_of p at) ≡ length p.signals) (put : PutAll p.tables back (map (λ (l : Line). l.value) (pin_lines back)) (places p.signals (uses_of p at))) where
      says : SaysAgain p.tables opts i.lines back i.project.clock (places p.signals (uses_of p at)) (clock_value p.clock at)
      says = record {
        name = plain_stays (codes "Mcu.Name") name_plain name_other (name_ends p.tables valid i.lines opts i.project was);
        box = plain_stays (codes "Mcu.Package") box_plain box_other (box_ends p.tables valid i.lines opts i.project was);
        keeps = plain_stays (codes "KeepUserPlacement") keep_plain keep_other (keep_ends p.tables valid i.lines opts i.project was);
        hse = plain_stays (codes "RCC.HSE_VALUE") hse_plain hse_other (hse_ends p.tables valid i.lines opts i.project was);
        count = subst (λ (x : List Entry). CountIs (lookup x (codes "Mcu.PinsNb"))) (sym after_is) (count_by (lookup es (codes "Mcu.PinsNb")) refl);
        put = put;
        apart = places_apart p.signals (uses_of p at) s.uses;
        few = (let a = places_few p.signals (uses_of p at) in let b = agree.few in omega (arith, a, b));
        clocks = clocks_mean;
        fixed = fixed_values;
      }

      clock_by : (hs : List Home) → map (λ (h : Home). h.value) hs ≡ values_due p.tables (clock_value p.clock at) → (v : Variable) → (slice_index_or hs (write.number_of v) nowhere).value ≡ clock_value p.clock at (write.number_of v)
      clock_by hs e variable.System = value_at hs (values_due p.tables (clock_value p.clock at)) 0 e (omega arith)
      clock_by hs e variable.Input = value_at hs (values_due p.tables (clock_value p.clock at)) 1 e (omega arith)
      clock_by hs e variable.Ahb = value_at hs (values_due p.tables (clock_value p.clock at)) 2 e (omega arith)
      clock_by hs e variable.P = value_at hs (values_due p.tables (clock_value p.clock at)) 3 e (omega arith)
      clock_by hs e variable.M = value_at hs (values_due p.tables (clock_value p.clock at)) 4 e (omega arith)
      clock_by hs e variable.N = value_at hs (values_due p.tables (clock_value p.clock at)) 5 e (omega arith)
      clock_by hs e variable.Q = value_at hs (values_due p.tables (clock_value p.clock at)) 6 e (omega arith)
      clock_by hs e variable.Apb1 = value_at hs (values_due p.tables (clock_value p.clock at)) 7 e (omega arith)
      clock_by hs e variable.Apb2 = value_at hs (values_due p.tables (clock_value p.clock at)) 8 e (omega arith)

      pub reads_back_by : ReadsBack out opts p at
      reads_back_by =
          let r = read_again p.tables opts i.lines back i.project (places p.signals (uses_of p at)) (clock_value p.clock at) i.is_read says in
          record {
            lines = back;
            project = r.project;
            are_lines = o.reads;
            is_read = r.reads;
            names = r.names ∙ places_named p.signals (uses_of p at) many;
            homes = r.homes ∙ places_at p.signals (uses_of p at) many;
            clocks = clock_by r.project.clock r.clock;
          }

pub first_is : (text : List ℕ) (opts : Opts) (p : ProblemParts) → IsOfText text opts p → p.first ≡ 10
unfolding problem_of
first_is text opts p i = ap (λ (x : ProblemParts). x.first) i.is_problem

source_values : (text : List ℕ) (opts : Opts) (p : ProblemParts) (at : List ℕ) → IsProblem p → IsOfText text opts p → (clock_value p.clock at 0 ≤ 2) × (clock_value p.clock at 1 ≤ 1)
source_values text opts p at agree i = sources p.tables p.clock at (agree.domains (λ e. (let ten = first_is text opts p i in omega (arith, ten, e))))

pub many_uses : (p : ProblemParts) (at : List ℕ) → IsProblem p → IsChoice p.shape at → length (uses_of p at) ≡ length p.signals
many_uses p at agree choice = length_uses (drop p.first p.shape) p.uses (drop p.first at) agree.use_sizes (drop_choice p.first p.shape at choice) ∙ sym agree.signals

-- what is written is read, with the clocks of the choice
pub clocks_back : (text : List ℕ) (opts : Opts) (p : ProblemParts) (at out : List ℕ) → IsValid p.tables → IsProblem p → IsChoice p.shape at → fits p.tables (uses_of p at) ≡ true → IsInRange (clock_at p.clock at)
    → pins_written p (text_lines text) < 2 ^ 64 → IsOfText text opts p → written_back text p at ≡ Ok out → IsReadWithClocks out p at
clocks_back text opts p at out valid agree choice fit range few i wrote =
    let w = source_values text opts p at agree i in
    record {
      lines = lines_from 1 (o text opts p at out valid agree choice fit range few i wrote).says;
      are_lines = (o text opts p at out valid agree choice fit range few i wrote).reads;
      homes = clocks_mean text opts p at out valid agree choice fit range few i wrote w.0 w.1;
    }

-- and reads back where its lines put the signals at their places
pub reads_back : (text : List ℕ) (opts : Opts) (p : ProblemParts) (at out : List ℕ) → IsValid p.tables → IsProblem p → IsChoice p.shape at → fits p.tables (uses_of p at) ≡ true → IsInRange (clock_at p.clock at)
    → pins_written p (text_lines text) < 2 ^ 64 → IsOfText text opts p → written_back text p at ≡ Ok out → PutsBack out p at → ReadsBack out opts p at
reads_back text opts p at out valid agree choice fit range few i wrote put =
    let w = source_values text opts p at agree i in
    let back = lines_from 1 (o text opts p at out valid agree choice fit range few i wrote).says in
    reads_back_by text opts p at out valid agree choice fit range few i wrote w.0 w.1 (many_uses p at agree choice) (put back (o text opts p at out valid agree choice fit range few i wrote).reads)
