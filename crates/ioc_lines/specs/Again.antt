-- A project that is read again under the same options, but without needs.
use Rattle.std.specs.Prelude.{◌≡◌, ℕ, ◌≤◌, List, [], ◌∷◌, map, length, true, Ok, Some, None, codes, slice_index, ◌⊎◌}
use Rattle.ioc_text.specs.declared.line.Line.{Line}
use Rattle.ioc_project.specs.Project.{fixes_clock, number_after, pin_lines, pll_source_of, project_of, system_source_of}
use Rattle.res_base.specs.Lists.{Pairwise}
use Rattle.res_model.specs.Numbers.{number_of}
use Rattle.res_model.specs.declared.opts.Opts.{Opts}
use Rattle.res_model.specs.declared.project.Home.{Home}
use Rattle.res_model.specs.declared.project.Project.{Project}
use Rattle.res_model.specs.declared.project.Signal.{Signal}
use Rattle.res_model.specs.declared.table.TableParts.{TableParts}
use Rattle.ioc_lines.specs.Entries.{Entry, entry_on, lookup}
use Rattle.ioc_lines.specs.Standing.{Means, PutAll}

abbrev pub without_needs : Opts → Opts
without_needs opts = record { vdd = opts.vdd; needs = []; hclk = opts.hclk; pclk1 = opts.pclk1; pclk2 = opts.pclk2; free = opts.free }

-- the clock variables of these numbers have these values as their homes
pub record HomesMean (t : TableParts) (es : List Entry) (w : ℕ → ℕ) : Type 0 where
  pub src : Means (slice_index t.defaults 0) system_source_of (lookup es (codes "RCC.SYSCLKSource")) (w 0)
  pub psrc : Means (slice_index t.defaults 1) pll_source_of (lookup es (codes "RCC.PLLSourceVirtual")) (w 1)
  pub hpre : Means (slice_index t.defaults 2) (number_after (codes "RCC_SYSCLK_DIV")) (lookup es (codes "RCC.AHBCLKDivider")) (w 2)
  pub p : Means (slice_index t.defaults 3) (number_after (codes "RCC_PLLP_DIV")) (lookup es (codes "RCC.PLLP")) (w 3)
  pub m : Means (slice_index t.defaults 4) (number_after []) (lookup es (codes "RCC.PLLM")) (w 4)
  pub n : Means (slice_index t.defaults 5) (number_after []) (lookup es (codes "RCC.PLLN")) (w 5)
  pub q : Means (slice_index t.defaults 6) (number_after []) (lookup es (codes "RCC.PLLQ")) (w 6)
  pub ppre1 : Means (slice_index t.defaults 7) (number_after (codes "RCC_HCLK_DIV")) (lookup es (codes "RCC.APB1CLKDivider")) (w 7)
  pub ppre2 : Means (slice_index t.defaults 8) (number_after (codes "RCC_HCLK_DIV")) (lookup es (codes "RCC.APB2CLKDivider")) (w 8)

-- and vos has the table's default
abbrev pub values_due : TableParts → (ℕ → ℕ) → List ℕ
values_due t w = w 0 ∷ w 1 ∷ w 2 ∷ w 3 ∷ w 4 ∷ w 5 ∷ w 6 ∷ w 7 ∷ w 8 ∷ slice_index t.defaults 9 ∷ []

-- what other lines say where a project was read of the first ones: the same part and marks of the whole, these signals at
-- these places, and these clocks, which are the homes that they had where they are fixed
pub record SaysAgain (t : TableParts) (opts : Opts) (ioc out : List Line) (clock : List Home) (ps : List (ℕ × List ℕ)) (w : ℕ → ℕ) : Type 0 where
  pub name : lookup (map entry_on ioc) (codes "Mcu.Name") ≡ lookup (map entry_on out) (codes "Mcu.Name")
  pub box : lookup (map entry_on ioc) (codes "Mcu.Package") ≡ lookup (map entry_on out) (codes "Mcu.Package")
  pub keeps : lookup (map entry_on ioc) (codes "KeepUserPlacement") ≡ lookup (map entry_on out) (codes "KeepUserPlacement")
  pub hse : lookup (map entry_on ioc) (codes "RCC.HSE_VALUE") ≡ lookup (map entry_on out) (codes "RCC.HSE_VALUE")
  pub count : (lookup (map entry_on out) (codes "Mcu.PinsNb") ≡ None) ⊎ ((v : List ℕ) × (n : ℕ) × (lookup (map entry_on out) (codes "Mcu.PinsNb") ≡ Some v) × (number_of v ≡ Some n))
  pub put : PutAll t out (map (λ (l : Line). l.value) (pin_lines out)) ps
  pub apart : Pairwise (λ (a b : ℕ × List ℕ). (a.0 ≡ b.0) → ⊥) ps
  pub few : length ps ≤ 160
  pub clocks : HomesMean t (map entry_on out) w
  pub fixed : fixes_clock opts.free ≡ true → map (λ (h : Home). h.value) clock ≡ values_due t w

-- they are read as a project with these signals at home at these places, and these homes of clocks
pub record IsReadAgain (t : TableParts) (opts : Opts) (out : List Line) (ps : List (ℕ × List ℕ)) (w : ℕ → ℕ) : Type 0 where
  pub project : Project
  pub reads : project_of t out (without_needs opts) true ≡ Ok project
  pub names : map (λ (s : Signal). s.name) project.signals ≡ map (λ (p : ℕ × List ℕ). p.1) ps
  pub homes : map (λ (s : Signal). s.home) project.signals ≡ map (λ (p : ℕ × List ℕ). Some p.0) ps
  pub clock : map (λ (h : Home). h.value) project.clock ≡ values_due t w
