-- A project is read again.
use Rattle.std.proofs.Common.{◌≡◌, ◌⊎◌, ℕ, ◌≤◌, ◌&&◌, ◌||◌, List, [], ◌∷◌, ◌++◌, length, map, Bool, true, false, cond, Option, Some, None, Result, Ok, Err, refl, sym, ap, ◌∙◌, subst, inl, inr, append-nil, arith}
use Rattle.std.specs.Prelude.{codes, nat_lt, slice_index}
use Rattle.std.specs.List.{list_any}
use Rattle.std.specs.Str.{bytes_eq}
use Rattle.std.proofs.lemmas.Bool.Decides.{nat_tests}
use Rattle.std.proofs.lemmas.List.{length-map}
use Rattle.res_base.specs.Lists.{Each, Pairwise}
use Rattle.res_base.proofs.SumLemmas.{bool_cases}
use Rattle.res_model.specs.Numbers.{number_of}
use Rattle.res_model.specs.Steps.{◌>>=◌}
use Rattle.res_model.specs.declared.opts.Opts.{Opts}
use Rattle.res_model.specs.declared.project.Home.{Home}
use Rattle.res_model.specs.declared.project.Project.{Project}
use Rattle.res_model.specs.declared.project.Signal.{Signal}
use Rattle.res_model.specs.declared.table.TableParts.{TableParts}
use Rattle.ioc_text.specs.Lines.{line_at}
use Rattle.ioc_text.specs.declared.line.Line.{Line}
use Rattle.ioc_project.specs.Project.{all_within, default_home, domain_tests, few, fixes_clock, fixes_signals, hertz_of, home_of, homes_of, hpre_home, hse_of, in_domains, is_taken, kept_of, m_home, marks_of, n_home, named_package, named_part, needs_from, number_after, p_home, part_of, pin_lines, pll_source_of, ppre1_home, ppre2_home, project_of, psrc_home, q_home, signals_after, src_home, system_source_of, truth_of, value_or, well_formed}
use Rattle.ioc_project.specs.declared.fault.ProjectFault.{ProjectFault}
use Rattle.ioc_project.specs.declared.fault.ProjectFault.TheVariants.{OutOfTable}
use Rattle.ioc_lines.specs.Again.{HomesMean, IsReadAgain, SaysAgain, values_due, without_needs}
use Rattle.ioc_lines.specs.Entries.{Entry, entry_on, lookup, value_of}
use Rattle.ioc_lines.specs.Standing.{Means}
use Rattle.ioc_lines.proofs.EntryLemmas.{both, same_ok}
use Rattle.ioc_lines.proofs.LookupLemmas.{line_value}
use Rattle.ioc_lines.proofs.SignalLemmas.{AreFree, Found, Place, all_put, home_on, name_on}

abbrev Done : Type 0
Done = Result (Unit {0}) ProjectFault

-- ---- lines of one value

formed : {X : Type 0} (n m : ℕ) (a b : Option X) (x : X) → a ≡ b → well_formed n a ≡ Ok x → well_formed m b ≡ Ok x
formed n m None None x s e = absurd cc
formed n m None (Some b) x s e = absurd cc
formed n m (Some a) None x s e = absurd cc
formed n m (Some a) (Some b) x s e = let i : b ≡ a = cc in ap Ok i ∙ e

same_value : {X : Type 0} (absent : X) (form : List ℕ → Option X) (o u : Option Line) (x : X) → value_of o ≡ value_of u → value_or absent form o ≡ Ok x → value_or absent form u ≡ Ok x
same_value absent form None None x s e = e
same_value absent form None (Some m) x s e = absurd cc
same_value absent form (Some l) None x s e = absurd cc
same_value absent form (Some l) (Some m) x s e = let v : l.value ≡ m.value = cc in formed l.number m.number (form l.value) (form m.value) x (ap form v) e

by_test : (a b : Bool) (f g : ProjectFault) → a ≡ b → (let r : Done = cond a (Ok tt) (Err f) in r) ≡ Ok tt → (let r : Done = cond b (Ok tt) (Err g) in r) ≡ Ok tt
by_test true true f g s e = refl
by_test true false f g s e = absurd cc
by_test false true f g s e = refl
by_test false false f g s e = absurd cc

same_part : (t : TableParts) (o u : Option Line) → value_of o ≡ value_of u → named_part t o ≡ Ok tt → named_part t u ≡ Ok tt
same_part t None None s e = e
same_part t None (Some m) s e = absurd cc
same_part t (Some l) None s e = absurd cc
same_part t (Some l) (Some m) s e =
    let v : l.value ≡ m.value = cc in
    by_test (list_any (bytes_eq l.value) t.names) (list_any (bytes_eq m.value) t.names) _ _ (ap (λ (x : List ℕ). list_any (bytes_eq x) t.names) v) e

same_package : (t : TableParts) (o u : Option Line) → value_of o ≡ value_of u → named_package t o ≡ Ok tt → named_package t u ≡ Ok tt
same_package t None None s e = e
same_package t None (Some m) s e = absurd cc
same_package t (Some l) None s e = absurd cc
same_package t (Some l) (Some m) s e =
    let v : l.value ≡ m.value = cc in
    by_test (bytes_eq l.value t.package) (bytes_eq m.value t.package) _ _ (ap (λ (x : List ℕ). bytes_eq x t.package) v) e

module _ (ioc out : List Line) (key : List ℕ) where
  pub same_line : lookup (map entry_on ioc) key ≡ lookup (map entry_on out) key → value_of (line_at ioc key) ≡ value_of (line_at out key)
  same_line e = line_value ioc key ∙ e ∙ sym (line_value out key)

-- ---- the whole, step by step

module _ (t : TableParts) (opts : Opts) (ioc out : List Line) (clock : List Home) (ps : List Place) (w : ℕ → ℕ) (a : SaysAgain t opts ioc out clock ps w) where
  part_again : part_of t ioc ≡ Ok tt → part_of t out ≡ Ok tt
  unfolding part_of
  part_again e =
      let s = both (named_part t (line_at ioc (codes "Mcu.Name"))) (λ part. named_package t (line_at ioc (codes "Mcu.Package"))) tt e in
      let name : named_part t (line_at out (codes "Mcu.Name")) ≡ Ok tt = same_part t (line_at ioc (codes "Mcu.Name")) (line_at out (codes "Mcu.Name")) (same_line ioc out (codes "Mcu.Name") a.name) s.1 in
      let box : named_package t (line_at out (codes "Mcu.Package")) ≡ Ok tt = same_package t (line_at ioc (codes "Mcu.Package")) (line_at out (codes "Mcu.Package")) (same_line ioc out (codes "Mcu.Package") a.box) s.2 in
      ap (λ (r : Done). r >>= (λ part. named_package t (line_at out (codes "Mcu.Package")))) name ∙ box

  numbered_value : (o : Option Line) → (value_of o ≡ None) ⊎ ((v : List ℕ) × (n : ℕ) × (value_of o ≡ Some v) × (number_of v ≡ Some n)) → (n : ℕ) × (value_or 0 number_of o ≡ Ok n)
  numbered_value None h = (0, refl)
  numbered_value (Some l) (inl e) = absurd cc
  numbered_value (Some l) (inr (v, n, e, d)) = let same : l.value ≡ v = cc in (n, rw (same, d) refl)

  count_read : (n : ℕ) × (value_or 0 number_of (line_at out (codes "Mcu.PinsNb")) ≡ Ok n)
  count_read = numbered_value (line_at out (codes "Mcu.PinsNb"))
      (subst (λ (o : Option (List ℕ)). (o ≡ None) ⊎ ((v : List ℕ) × (n : ℕ) × (o ≡ Some v) × (number_of v ≡ Some n))) (sym (line_value out (codes "Mcu.PinsNb"))) a.count)

  kept_again : (kept : Bool) → kept_of ioc ≡ Ok kept → kept_of out ≡ Ok kept
  unfolding kept_of
  kept_again kept e =
      let s = both (value_or 0 number_of (line_at ioc (codes "Mcu.PinsNb"))) (λ pins. value_or false truth_of (line_at ioc (codes "KeepUserPlacement"))) kept e in
      let k = same_value false truth_of (line_at ioc (codes "KeepUserPlacement")) (line_at out (codes "KeepUserPlacement")) kept (same_line ioc out (codes "KeepUserPlacement") a.keeps) s.2 in
      ap (λ (r : Result ℕ ProjectFault). r >>= (λ pins. value_or false truth_of (line_at out (codes "KeepUserPlacement")))) count_read.1 ∙ k

  hse_again : (hertz : ℕ) → hse_of t ioc ≡ Ok hertz → hse_of t out ≡ Ok hertz
  unfolding hse_of
  hse_again hertz e = same_value t.hse_hz hertz_of (line_at ioc (codes "RCC.HSE_VALUE")) (line_at out (codes "RCC.HSE_VALUE")) hertz (same_line ioc out (codes "RCC.HSE_VALUE") a.hse) e

-- ---- clocks

abbrev HomeIs : Result Home ProjectFault → ℕ → Type 0
HomeIs r w = (h : Home) × (r ≡ Ok h) × (h.value ≡ w)

home_by : (t : TableParts) (place : ℕ) (form : List ℕ → Option ℕ) (o : Option Line) (w : ℕ) → Means (slice_index t.defaults place) form (value_of o) w → HomeIs (home_of t place form o) w
home_by t place form None w m = (default_home t place, refl, m)
home_by t place form (Some l) w m = (record { value = w; line = l.number }, rw m refl, refl)

home_at : (t : TableParts) (place : ℕ) (form : List ℕ → Option ℕ) (out : List Line) (key : List ℕ) (w : ℕ) → Means (slice_index t.defaults place) form (lookup (map entry_on out) key) w
    → HomeIs (home_of t place form (line_at out key)) w
home_at t place form out key w m = home_by t place form (line_at out key) w (subst (λ (o : Option (List ℕ)). Means (slice_index t.defaults place) form o w) (sym (line_value out key)) m)

module _ (t : TableParts) (out : List Line) (w : ℕ → ℕ) (h : HomesMean t (map entry_on out) w) where
  at_src : HomeIs (src_home t out) (w 0)
  unfolding src_home
  at_src = home_at t 0 system_source_of out (codes "RCC.SYSCLKSource") (w 0) h.src

  at_psrc : HomeIs (psrc_home t out) (w 1)
  unfolding psrc_home
  at_psrc = home_at t 1 pll_source_of out (codes "RCC.PLLSourceVirtual") (w 1) h.psrc

  at_hpre : HomeIs (hpre_home t out) (w 2)
  unfolding hpre_home
  at_hpre = home_at t 2 (number_after (codes "RCC_SYSCLK_DIV")) out (codes "RCC.AHBCLKDivider") (w 2) h.hpre

  at_p : HomeIs (p_home t out) (w 3)
  unfolding p_home
  at_p = home_at t 3 (number_after (codes "RCC_PLLP_DIV")) out (codes "RCC.PLLP") (w 3) h.p

  at_m : HomeIs (m_home t out) (w 4)
  unfolding m_home
  at_m = home_at t 4 (number_after []) out (codes "RCC.PLLM") (w 4) h.m

  at_n : HomeIs (n_home t out) (w 5)
  unfolding n_home
  at_n = home_at t 5 (number_after []) out (codes "RCC.PLLN") (w 5) h.n

  at_q : HomeIs (q_home t out) (w 6)
  unfolding q_home
  at_q = home_at t 6 (number_after []) out (codes "RCC.PLLQ") (w 6) h.q

  at_ppre1 : HomeIs (ppre1_home t out) (w 7)
  unfolding ppre1_home
  at_ppre1 = home_at t 7 (number_after (codes "RCC_HCLK_DIV")) out (codes "RCC.APB1CLKDivider") (w 7) h.ppre1

  at_ppre2 : HomeIs (ppre2_home t out) (w 8)
  unfolding ppre2_home
  at_ppre2 = home_at t 8 (number_after (codes "RCC_HCLK_DIV")) out (codes "RCC.APB2CLKDivider") (w 8) h.ppre2

  pub record Homes : Type 0 where
    pub homes : List Home
    pub read : homes_of t out ≡ Ok homes
    pub values : map (λ (x : Home). x.value) homes ≡ values_due t w

  pub homes_again : Homes
  unfolding homes_of
  homes_again = record {
    homes = at_src.0 ∷ at_psrc.0 ∷ at_hpre.0 ∷ at_p.0 ∷ at_m.0 ∷ at_n.0 ∷ at_q.0 ∷ at_ppre1.0 ∷ at_ppre2.0 ∷ default_home t 9 ∷ [];
    read = rw (at_m.1, at_n.1, at_q.1, at_p.1, at_src.1, at_psrc.1, at_hpre.1, at_ppre1.1, at_ppre2.1) refl;
    values = rw (at_src.2, at_psrc.2, at_hpre.2, at_p.2, at_m.2, at_n.2, at_q.2, at_ppre1.2, at_ppre2.2) refl;
  }

first_value : (a b : ℕ) (xs ys : List ℕ) → a ∷ xs ≡ b ∷ ys → (a ≡ b) × (xs ≡ ys)
first_value a b xs ys e = (cc, cc)

within_same : (tests : List (ℕ → Bool)) (hs gs : List Home) → map (λ (h : Home). h.value) hs ≡ map (λ (h : Home). h.value) gs → all_within tests hs ≡ Ok tt → all_within tests gs ≡ Ok tt
within_same [] hs gs s e = refl
within_same (test ∷ tests) [] [] s e = refl
within_same (test ∷ tests) [] (g ∷ gs) s e = absurd cc
within_same (test ∷ tests) (h ∷ hs) [] s e = absurd cc
within_same (test ∷ tests) (h ∷ hs) (g ∷ gs) s e =
    let v = first_value h.value g.value (map (λ (x : Home). x.value) hs) (map (λ (x : Home). x.value) gs) s in
    elim (bool_cases (test h.value)) [
      | inl y ↦
          let rest : all_within tests hs ≡ Ok tt = rw y at e in
          let there : test g.value ≡ true = ap test (sym v.0) ∙ y in
          rw there (within_same tests hs gs v.1 rest)
      | inr n ↦ let f : (let r : Done = Err (OutOfTable h.line) in r) ≡ Ok tt = rw n at e in absurd cc
    ]

in_again : (t : TableParts) (fixed : Bool) (hs gs : List Home) → (fixed ≡ true → map (λ (h : Home). h.value) hs ≡ map (λ (h : Home). h.value) gs) → in_domains t fixed hs ≡ Ok tt → in_domains t fixed gs ≡ Ok tt
unfolding in_domains
in_again t true hs gs s e = within_same (domain_tests t.clock) hs gs (s refl) e
in_again t false hs gs s e = refl

few_again : (ss : List Signal) → length ss ≤ 160 → few ss ≡ Ok ss
unfolding few
few_again ss l = let e : nat_lt 160 (length ss) ≡ false = grind (arith, nat_tests) in rw e refl

none_before : (ps : List Place) → AreFree [] ps
unfolding is_taken
none_before [] = tt
none_before (p ∷ ps) = (refl, none_before ps)

-- a unit has one value
is_done : (r : Done) (x : Unit {0}) → r ≡ Ok x → r ≡ Ok tt
is_done r x e = e

-- lines that say this of a project that was read are read again
pub read_again : (t : TableParts) (opts : Opts) (ioc out : List Line) (p : Project) (ps : List Place) (w : ℕ → ℕ) → project_of t ioc opts true ≡ Ok p → SaysAgain t opts ioc out p.clock ps w → IsReadAgain t opts out ps w
unfolding project_of
read_again t opts ioc out p ps w e a =
    let s1 = both (part_of t ioc) _ p e in
    let s2 = both (kept_of ioc) _ p s1.2 in
    let s3 = both (signals_after t ioc (s2.0 || fixes_signals opts.free) [] (pin_lines ioc)) _ p s2.2 in
    let s4 = both (needs_from t 1 opts.needs) _ p s3.2 in
    let s5 = both (few (s3.0 ++ s4.0)) _ p s4.2 in
    let s6 = both (hse_of t ioc) _ p s5.2 in
    let s7 = both (homes_of t ioc) _ p s6.2 in
    let s8 = both (in_domains t (true && fixes_clock opts.free) s7.0) _ p s7.2 in
    let is : (record { signals = s5.0; clock = s7.0; hse_hz = s6.0; marks = marks_of t ioc (pin_lines ioc) }) ≡ p = same_ok _ p s8.2 in
    let part = part_again t opts ioc out p.clock ps w a (is_done (part_of t ioc) s1.0 s1.1) in
    let kept = kept_again t opts ioc out p.clock ps w a s2.0 s2.1 in
    let found = all_put t out (s2.0 || fixes_signals opts.free) (pin_lines out) [] ps a.put (none_before ps) a.apart in
    let long : length found.more ≡ length ps = sym (length-map found.more name_on) ∙ ap length found.names ∙ length-map ps (λ (x : Place). x.1) in
    let all : found.more ++ [] ≡ found.more = append-nil found.more in
    let few_read : few (found.more ++ []) ≡ Ok found.more = ap few all ∙ few_again found.more (subst (λ (n : ℕ). n ≤ 160) (sym long) a.few) in
    let hse = hse_again t opts ioc out p.clock ps w a s6.0 s6.1 in
    let homes = homes_again t out w a.clocks in
    let clock : s7.0 ≡ p.clock = ap (λ (x : Project). x.clock) is in
    let within = in_again t (fixes_clock opts.free) s7.0 homes.homes (λ f. ap (map (λ (h : Home). h.value)) clock ∙ a.fixed f ∙ sym homes.values) (is_done (in_domains t (fixes_clock opts.free) s7.0) s8.0 s8.1) in
    record {
      project = record { signals = found.more; clock = homes.homes; hse_hz = s6.0; marks = marks_of t out (pin_lines out) };
      reads = rw (part, kept, found.reads, few_read, hse, homes.read, within) refl;
      names = found.names;
      homes = found.homes;
      clock = homes.values;
    }
