-- The homes of the clock variables: what they were, and that those that cost nothing are chosen.
use Rattle.std.proofs.Common.{◌≡◌, ℕ, zero, suc, ◌<◌, ◌==◌, List, [], ◌∷◌, ◌++◌, length, map, filter, Bool, true, false, not, Option, Some, None, Result, Ok, refl, ap, ◌∙◌, subst, inl, inr, arith}
use Rattle.std.specs.Prelude.{codes, slice_index, slice_index_or}
use Rattle.std.specs.List.{list_any}
use Rattle.std.proofs.lemmas.Bool.Decides.{nat_tests}
use Rattle.res_base.proofs.SumLemmas.{bool_cases}
use Rattle.choice_rank.specs.Choices.{IsChoice, cost_at}
use Rattle.choice_rank.specs.declared.variable.Costs.TheVariants.{HomeFirst}
use Rattle.choice_rank.specs.declared.variable.VarShape.{VarShape}
use Rattle.res_model.specs.Steps.{◌>>=◌}
use Rattle.res_model.specs.declared.project.Home.{Home}
use Rattle.res_model.specs.declared.table.TableParts.{TableParts}
use Rattle.ioc_text.specs.Lines.{line_at}
use Rattle.ioc_text.specs.declared.line.Line.{Line}
use Rattle.ioc_project.specs.Project.{default_home, home_of, homes_of, hpre_home, m_home, n_home, number_after, p_home, pll_source_of, ppre1_home, ppre2_home, psrc_home, q_home, src_home, system_source_of, well_formed}
use Rattle.ioc_project.specs.declared.fault.ProjectFault.{ProjectFault}
use Rattle.problem.specs.ClockValues.{clock_values, clock_variables, costs_with, is_home, nowhere, values_with}
use Rattle.ioc_lines.specs.Again.{HomesMean}
use Rattle.ioc_lines.specs.Entries.{entry_on, lookup, value_of}
use Rattle.ioc_lines.specs.Standing.{Means}
use Rattle.ioc_lines.proofs.EntryLemmas.{both, same_ok}
use Rattle.ioc_lines.proofs.LookupLemmas.{line_value}
use Rattle.ioc_write.specs.WriteBack.{no_variable}

-- ---- what the homes were

abbrev ReadHome : Type 0
ReadHome = Result Home ProjectFault

by_form : (n : ℕ) (o : Option ℕ) (h : Home) → (well_formed n o >>= (λ v. Ok (record { value = v; line = n }))) ≡ Ok h → o ≡ Some h.value
by_form n None h e = absurd cc
by_form n (Some v) h e = ap (λ (x : Home). Some x.value) (same_ok (record { value = v; line = n }) h e)

home_was : (t : TableParts) (place : ℕ) (form : List ℕ → Option ℕ) (o : Option Line) (h : Home) → home_of t place form o ≡ Ok h → Means (slice_index t.defaults place) form (value_of o) h.value
home_was t place form None h e = ap (λ (x : Home). x.value) (same_ok (default_home t place) h e)
home_was t place form (Some l) h e = by_form l.number (form l.value) h e

was_at : (t : TableParts) (place : ℕ) (form : List ℕ → Option ℕ) (ioc : List Line) (key : List ℕ) (h : Home) → home_of t place form (line_at ioc key) ≡ Ok h
    → Means (slice_index t.defaults place) form (lookup (map entry_on ioc) key) h.value
was_at t place form ioc key h e = subst (λ (o : Option (List ℕ)). Means (slice_index t.defaults place) form o h.value) (line_value ioc key) (home_was t place form (line_at ioc key) h e)

module _ (t : TableParts) (ioc : List Line) (h : Home) where
  was_src : src_home t ioc ≡ Ok h → Means (slice_index t.defaults 0) system_source_of (lookup (map entry_on ioc) (codes "RCC.SYSCLKSource")) h.value
  unfolding src_home
  was_src e = was_at t 0 system_source_of ioc (codes "RCC.SYSCLKSource") h e

  was_psrc : psrc_home t ioc ≡ Ok h → Means (slice_index t.defaults 1) pll_source_of (lookup (map entry_on ioc) (codes "RCC.PLLSourceVirtual")) h.value
  unfolding psrc_home
  was_psrc e = was_at t 1 pll_source_of ioc (codes "RCC.PLLSourceVirtual") h e

  was_hpre : hpre_home t ioc ≡ Ok h → Means (slice_index t.defaults 2) (number_after (codes "RCC_SYSCLK_DIV")) (lookup (map entry_on ioc) (codes "RCC.AHBCLKDivider")) h.value
  unfolding hpre_home
  was_hpre e = was_at t 2 (number_after (codes "RCC_SYSCLK_DIV")) ioc (codes "RCC.AHBCLKDivider") h e

  was_p : p_home t ioc ≡ Ok h → Means (slice_index t.defaults 3) (number_after (codes "RCC_PLLP_DIV")) (lookup (map entry_on ioc) (codes "RCC.PLLP")) h.value
  unfolding p_home
  was_p e = was_at t 3 (number_after (codes "RCC_PLLP_DIV")) ioc (codes "RCC.PLLP") h e

  was_m : m_home t ioc ≡ Ok h → Means (slice_index t.defaults 4) (number_after []) (lookup (map entry_on ioc) (codes "RCC.PLLM")) h.value
  unfolding m_home
  was_m e = was_at t 4 (number_after []) ioc (codes "RCC.PLLM") h e

  was_n : n_home t ioc ≡ Ok h → Means (slice_index t.defaults 5) (number_after []) (lookup (map entry_on ioc) (codes "RCC.PLLN")) h.value
  unfolding n_home
  was_n e = was_at t 5 (number_after []) ioc (codes "RCC.PLLN") h e

  was_q : q_home t ioc ≡ Ok h → Means (slice_index t.defaults 6) (number_after []) (lookup (map entry_on ioc) (codes "RCC.PLLQ")) h.value
  unfolding q_home
  was_q e = was_at t 6 (number_after []) ioc (codes "RCC.PLLQ") h e

  was_ppre1 : ppre1_home t ioc ≡ Ok h → Means (slice_index t.defaults 7) (number_after (codes "RCC_HCLK_DIV")) (lookup (map entry_on ioc) (codes "RCC.APB1CLKDivider")) h.value
  unfolding ppre1_home
  was_ppre1 e = was_at t 7 (number_after (codes "RCC_HCLK_DIV")) ioc (codes "RCC.APB1CLKDivider") h e

  was_ppre2 : ppre2_home t ioc ≡ Ok h → Means (slice_index t.defaults 8) (number_after (codes "RCC_HCLK_DIV")) (lookup (map entry_on ioc) (codes "RCC.APB2CLKDivider")) h.value
  unfolding ppre2_home
  was_ppre2 e = was_at t 8 (number_after (codes "RCC_HCLK_DIV")) ioc (codes "RCC.APB2CLKDivider") h e

-- the value of the home of this number
abbrev pub home_value : List Home → ℕ → ℕ
home_value hs k = (slice_index_or hs k nowhere).value

pub record HomesWere (t : TableParts) (ioc : List Line) (hs : List Home) : Type 0 where
  pub means : HomesMean t (map entry_on ioc) (home_value hs)
  pub values : map (λ (h : Home). h.value) hs ≡ home_value hs 0 ∷ home_value hs 1 ∷ home_value hs 2 ∷ home_value hs 3 ∷ home_value hs 4 ∷ home_value hs 5 ∷ home_value hs 6 ∷ home_value hs 7 ∷ home_value hs 8 ∷ slice_index t.defaults 9 ∷ []
  pub ten : length hs ≡ 10

pub homes_were : (t : TableParts) (ioc : List Line) (hs : List Home) → homes_of t ioc ≡ Ok hs → HomesWere t ioc hs
unfolding homes_of
homes_were t ioc hs e =
    let m = both (m_home t ioc) _ hs e in
    let n = both (n_home t ioc) _ hs m.2 in
    let q = both (q_home t ioc) _ hs n.2 in
    let p = both (p_home t ioc) _ hs q.2 in
    let src = both (src_home t ioc) _ hs p.2 in
    let psrc = both (psrc_home t ioc) _ hs src.2 in
    let hpre = both (hpre_home t ioc) _ hs psrc.2 in
    let ppre1 = both (ppre1_home t ioc) _ hs hpre.2 in
    let ppre2 = both (ppre2_home t ioc) _ hs ppre1.2 in
    let all : src.0 ∷ psrc.0 ∷ hpre.0 ∷ p.0 ∷ m.0 ∷ n.0 ∷ q.0 ∷ ppre1.0 ∷ ppre2.0 ∷ default_home t 9 ∷ [] ≡ hs = same_ok (src.0 ∷ psrc.0 ∷ hpre.0 ∷ p.0 ∷ m.0 ∷ n.0 ∷ q.0 ∷ ppre1.0 ∷ ppre2.0 ∷ default_home t 9 ∷ []) hs ppre2.2 in
    subst (HomesWere t ioc) all (record {
      means = record {
        src = was_src t ioc src.0 src.1;
        psrc = was_psrc t ioc psrc.0 psrc.1;
        hpre = was_hpre t ioc hpre.0 hpre.1;
        p = was_p t ioc p.0 p.1;
        m = was_m t ioc m.0 m.1;
        n = was_n t ioc n.0 n.1;
        q = was_q t ioc q.0 q.1;
        ppre1 = was_ppre1 t ioc ppre1.0 ppre1.1;
        ppre2 = was_ppre2 t ioc ppre2.0 ppre2.1;
      };
      values = refl;
      ten = refl;
    })

-- ---- a variable that costs nothing is at its home

first_home : (home : ℕ) (domain rest : List ℕ) → list_any (is_home home) domain ≡ true → slice_index (filter (is_home home) domain ++ rest) 0 ≡ home
first_home home [] rest e = absurd cc
first_home home (d ∷ ds) rest e = elim (bool_cases (is_home home d)) [
  | inl y ↦ let same : d ≡ home = grind (arith, nat_tests) in rw y same
  | inr n ↦ let more : list_any (is_home home) ds ≡ true = rw n at e in rw n (first_home home ds rest more)
]

first_costs : (x : ℕ) → (cost_at HomeFirst x == 0) ≡ true → x ≡ 0
first_costs x f = elim (bool_cases (x == 0)) [
  | inl t ↦ grind (arith, nat_tests)
  | inr n ↦ let g : false ≡ true = rw n at f in absurd cc
]

no_cost : (home : ℕ) (domain : List ℕ) (x : ℕ) → (cost_at (costs_with home domain) x == 0) ≡ true → (list_any (is_home home) domain ≡ true) × (x ≡ 0)
no_cost home domain x e = elim (bool_cases (list_any (is_home home) domain)) [
  | inl y ↦ let f : (cost_at HomeFirst x == 0) ≡ true = rw y at e in (y, first_costs x f)
  | inr n ↦ let f : false ≡ true = rw n at e in absurd cc
]

free_home : (fixed : Bool) (home : ℕ) (domain : List ℕ) → list_any (is_home home) domain ≡ true → slice_index (values_with fixed home domain) 0 ≡ home
free_home true home domain e = refl
free_home false home domain e = first_home home domain (filter (λ (v : ℕ). not (is_home home v)) domain) e

module _ (fixed : Bool) where
  -- whoever costs nothing has its home's value
  pub at_home : (k : ℕ) (ds : List (List ℕ)) (hs : List Home) (rest : List VarShape) (x : ℕ) → k < length ds → k < length hs
      → (cost_at (slice_index_or (clock_variables fixed ds hs ++ rest) k no_variable).costs x == 0) ≡ true → slice_index (slice_index_or (clock_values fixed ds hs) k []) x ≡ home_value hs k
  at_home k [] hs rest x l m e = absurd (omega arith)
  at_home k (d ∷ ds) [] rest x l m e = absurd (omega arith)
  at_home zero (d ∷ ds) (h ∷ hs) rest x l m e =
      let r = no_cost h.value d x e in
      ap (slice_index (values_with fixed h.value d)) r.1 ∙ free_home fixed h.value d r.0
  at_home (suc k) (d ∷ ds) (h ∷ hs) rest x l m e = at_home k ds hs rest x (omega arith) (omega arith) e

-- a fixed one has no other value
pub fixed_home : (k : ℕ) (ds : List (List ℕ)) (hs : List Home) (rest : List VarShape) (at : List ℕ) → k < length ds → k < length hs → IsChoice (clock_variables true ds hs ++ rest) at
    → slice_index (slice_index_or (clock_values true ds hs) k []) (slice_index at k) ≡ home_value hs k
fixed_home k [] hs rest at l m c = absurd (omega arith)
fixed_home k (d ∷ ds) [] rest at l m c = absurd (omega arith)
fixed_home k (d ∷ ds) (h ∷ hs) rest [] l m c = absurd c
fixed_home zero (d ∷ ds) (h ∷ hs) rest (x ∷ xs) l m c = let z : x ≡ 0 = (let b = c.0 in omega (arith, b)) in ap (slice_index (h.value ∷ [])) z
fixed_home (suc k) (d ∷ ds) (h ∷ hs) rest (x ∷ xs) l m c = fixed_home k ds hs rest xs (omega arith) (omega arith) c.1
