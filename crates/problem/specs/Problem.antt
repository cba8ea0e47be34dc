-- The problem that a table, a project and options make, and what every problem keeps.
use Rattle.std.specs.Prelude.{◌≡◌, ◌≢◌, ℕ, ◌≤◌, ◌<◌, ◌++◌, List, [], ◌∷◌, Bool, true, not, ◌||◌, Ok, length, take, drop}
use Rattle.std.specs.List.{list_all, list_any}
use Rattle.res_base.specs.Lists.{Each, Member}
use Rattle.choice_rank.specs.declared.variable.VarShape.{VarShape}
use Rattle.choice_rank.specs.declared.shape.ShapeFault.{ShapeFault}
use Rattle.choice_rank.specs.declared.shape.ShapeFault.TheVariants.{TooWide}
use Rattle.choice_rank.specs.Choices.{IsNarrow, IsFirstWide, IsShape}
use Rattle.res_model.specs.declared.opts.Opts.{Opts}
use Rattle.res_model.specs.declared.project.Project.{Project}
use Rattle.res_model.specs.declared.table.Mode.{Mode}
use Rattle.res_model.specs.declared.table.Mode.TheVariants as mode
use Rattle.res_model.specs.declared.table.PinUse.{PinUse}
use Rattle.res_model.specs.declared.table.TableParts.{TableParts}
use Rattle.res_model.specs.Clock.{AreFacts, facts_of}
use Rattle.res_model.specs.Placement.{is_exti}
use Rattle.ioc_project.specs.Project.{all_within, domain_tests, fixes_clock}
use Rattle.clock_limits.specs.Ranges.{AreInRange}
use Rattle.res_model.specs.Values.{pin_values, pin_variables}
use Rattle.problem.specs.declared.parts.Part.{Part}
use Rattle.problem.specs.declared.parts.Part.TheVariants.{PinsOnly, Whole}
use Rattle.problem.specs.declared.parts.ProblemParts.{ProblemParts}
use Rattle.problem.specs.ClockValues.{clock_domains, clock_values, clock_variables}

-- the variables: in a whole problem the ten of the clocks, and then one for each signal
abbrev pub clock_shape : TableParts → Project → Opts → Part → List VarShape
clock_shape t p opts PinsOnly = []
clock_shape t p opts Whole = clock_variables (fixes_clock opts.free) (clock_domains t) p.clock

unfoldable pub shape_of : TableParts → Project → Opts → Part → List VarShape
shape_of t p opts part = clock_shape t p opts part ++ pin_variables t p.signals

-- and their values
abbrev pub clock_of : TableParts → Project → Opts → Part → List (List ℕ)
clock_of t p opts PinsOnly = []
clock_of t p opts Whole = clock_values (fixes_clock opts.free) (clock_domains t) p.clock

abbrev pub first_of : Part → ℕ
first_of PinsOnly = 0
first_of Whole = 10

unfoldable pub problem_of : TableParts → Project → Opts → Part → ProblemParts
problem_of t p opts part = record {
  shape = shape_of t p opts part;
  first = first_of part;
  clock = clock_of t p opts part;
  uses = pin_values t p.signals;
  signals = p.signals;
  facts = facts_of t p opts;
  tables = t;
}

-- in a whole problem with fixed clock variables, each has its home in its domain
abbrev pub AreHomesDue : TableParts → Project → Opts → Part → Type 0
AreHomesDue t p opts PinsOnly = Unit {0}
AreHomesDue t p opts Whole = fixes_clock opts.free ≡ true → all_within (domain_tests t.clock) p.clock ≡ Ok tt

-- a shape that is not narrow is refused with its first wide variable
abbrev pub IsRefused : List VarShape → ShapeFault → Type 0
IsRefused vs (TooWide variable) = (¬ IsNarrow vs) × IsFirstWide vs variable

-- each variable has a position for each of its values
abbrev pub HaveValues : {X : Type 0} → List VarShape → List (List X) → Type 0
HaveValues [] [] = Unit {0}
HaveValues [] (xs ∷ xss) = ⊥
HaveValues (v ∷ vs) [] = ⊥
HaveValues (v ∷ vs) (xs ∷ xss) = (v.size ≡ length xs) × HaveValues vs xss

abbrev pub ArePins : TableParts → List PinUse → Type 0
ArePins t us = Each (λ (u : PinUse). u.pin < length t.pins) us

-- an interrupt has no value that is none
abbrev pub are_alike : List PinUse → Bool
are_alike us = not (list_any (λ (u : PinUse). is_exti u.mode) us) || list_all (λ (u : PinUse). is_exti u.mode) us

-- an alternate function has a number of four bits (RM0090, GPIOx_AFRL and GPIOx_AFRH)
abbrev pub IsFunction : Mode → Type 0
IsFunction (mode.Alt n) = n < 16
IsFunction mode.Input = Unit {0}
IsFunction mode.Output = Unit {0}
IsFunction mode.Analog = Unit {0}
IsFunction mode.Exti = Unit {0}
IsFunction mode.Osc = Unit {0}
IsFunction mode.Held = Unit {0}

abbrev pub HaveFunctions : List PinUse → Type 0
HaveFunctions us = Each (λ (u : PinUse). IsFunction u.mode) us

-- as many lists of values as domains, each of values of the domain beside it
abbrev pub AreFrom : List (List ℕ) → List (List ℕ) → Type 0
AreFrom [] [] = Unit {0}
AreFrom [] (d ∷ ds) = ⊥
AreFrom (vs ∷ vss) [] = ⊥
AreFrom (vs ∷ vss) (d ∷ ds) = Each (λ v. Member v d) vs × AreFrom vss ds

-- ten lists of clock values, within the widest
pub record IsClock (values : List (List ℕ)) : Type 0 where
  pub ten : length values ≡ 10
  pub in_range : AreInRange values

-- what the type `Problem` keeps: the fields agree
pub record IsProblem (p : ProblemParts) : Type 0 where
  pub is_shape : IsShape p.shape
  pub first : p.first ≡ length p.clock
  pub clock_sizes : HaveValues (take p.first p.shape) p.clock
  pub use_sizes : HaveValues (drop p.first p.shape) p.uses
  pub signals : length p.signals ≡ length p.uses
  pub few : length p.signals ≤ 160
  pub pins : Each (ArePins p.tables) p.uses
  pub alike : list_all are_alike p.uses ≡ true
  pub functions : Each HaveFunctions p.uses
  pub facts : AreFacts p.facts
  pub clock : p.first ≢ 0 → IsClock p.clock
  pub domains : p.first ≢ 0 → AreFrom p.clock (clock_domains p.tables)
