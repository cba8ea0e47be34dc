-- What lines of pins must say for the signals to be read at given places, and what they say where signals were read.
use Rattle.std.specs.Prelude.{◌≡◌, ◌⊎◌, ◌||◌, ℕ, List, [], ◌∷◌, Bool, true, false, Option, Some, None, Result, Ok, codes}
use Rattle.ioc_text.specs.declared.line.Line.{Line}
use Rattle.ioc_project.specs.Project.{candidate, is_virtual, name_given, pin_line_at, place_of, pull_of, signal_given, speed_of, truth_of, value_or}
use Rattle.ioc_project.specs.declared.fault.ProjectFault.{ProjectFault}
use Rattle.res_model.specs.declared.project.Home.{Home}
use Rattle.res_model.specs.declared.project.Pull.{Pull}
use Rattle.res_model.specs.declared.project.Pull.TheVariants.{None as NoPull}
use Rattle.res_model.specs.declared.project.Signal.{Signal}
use Rattle.res_model.specs.declared.project.Speed.{Speed}
use Rattle.res_model.specs.declared.project.Speed.TheVariants.{Low}
use Rattle.res_model.specs.declared.table.TableParts.{TableParts}
use Rattle.res_model.specs.declared.table.TableSignal.{TableSignal}

-- it is read without a fault
abbrev pub IsFine : {X : Type 0} → Result X ProjectFault → Type 0
IsFine {X} r = (x : X) × (r ≡ Ok x)

-- the signal of a pin's line: its name, and that it can be at the place even where it must stay
pub record IsGiven (t : TableParts) (o : Option Line) (place : ℕ) (name : List ℕ) : Type 0 where
  pub signal : Option (ℕ × TableSignal)
  pub reads : signal_given t o ≡ Ok signal
  pub named : name_given signal ≡ name
  pub can : (locked : Bool) → candidate locked place signal ≡ Ok tt

-- the lines of a pin of this name put a signal of that name at the place
pub record Puts (t : TableParts) (ioc : List Line) (pin : List ℕ) (place : ℕ) (name : List ℕ) : Type 0 where
  pub real : is_virtual pin ≡ false
  pub there : place_of t pin ≡ Some place
  pub given : IsGiven t (pin_line_at ioc pin (codes ".Signal")) place name
  pub locked : IsFine (value_or false truth_of (pin_line_at ioc pin (codes ".Locked")))
  pub pull : IsFine (value_or NoPull pull_of (pin_line_at ioc pin (codes ".GPIO_PuPd")))
  pub speed : IsFine (value_or Low speed_of (pin_line_at ioc pin (codes ".GPIO_Speed")))

-- pins, some of them virtual, put these signals at these places
abbrev pub PutAll : TableParts → List Line → List (List ℕ) → List (ℕ × List ℕ) → Type 0
PutAll t ioc [] [] = Unit {0}
PutAll t ioc [] (s ∷ ss) = ⊥
PutAll t ioc (v ∷ vs) [] = (is_virtual v ≡ true) × PutAll t ioc vs []
PutAll t ioc (v ∷ vs) (s ∷ ss) = ((is_virtual v ≡ true) × PutAll t ioc vs (s ∷ ss)) ⊎ (Puts t ioc v s.0 s.1 × PutAll t ioc vs ss)

-- what the lines of a pin said where a signal was read of them
pub record Stands (t : TableParts) (ioc : List Line) (kept : Bool) (pin : List ℕ) (s : Signal) : Type 0 where
  pub real : is_virtual pin ≡ false
  pub home : ℕ
  pub at_home : s.home ≡ Some home
  pub there : place_of t pin ≡ Some home
  pub signal : Option (ℕ × TableSignal)
  pub reads : signal_given t (pin_line_at ioc pin (codes ".Signal")) ≡ Ok signal
  pub named : s.name ≡ name_given signal
  pub locked : IsFine (value_or false truth_of (pin_line_at ioc pin (codes ".Locked")))
  pub pull : IsFine (value_or NoPull pull_of (pin_line_at ioc pin (codes ".GPIO_PuPd")))
  pub speed : IsFine (value_or Low speed_of (pin_line_at ioc pin (codes ".GPIO_Speed")))

abbrev pub StandAll : TableParts → List Line → Bool → List (List ℕ) → List Signal → Type 0
StandAll t ioc kept [] [] = Unit {0}
StandAll t ioc kept [] (s ∷ ss) = ⊥
StandAll t ioc kept (v ∷ vs) [] = (is_virtual v ≡ true) × StandAll t ioc kept vs []
StandAll t ioc kept (v ∷ vs) (s ∷ ss) = ((is_virtual v ≡ true) × StandAll t ioc kept vs (s ∷ ss)) ⊎ (Stands t ioc kept v s × StandAll t ioc kept vs ss)

-- two signals have no home together
abbrev pub HomesApart : Signal → Signal → Type 0
HomesApart a b = (h : ℕ) → a.home ≡ Some h → b.home ≡ Some h → ⊥

-- the value of a key means this, or without the key the default
abbrev pub Means : ℕ → (List ℕ → Option ℕ) → Option (List ℕ) → ℕ → Type 0
Means default form None v = default ≡ v
Means default form (Some value) v = form value ≡ Some v
