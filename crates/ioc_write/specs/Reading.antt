-- What becomes of what a line says, by its key and its value.
use Rattle.std.specs.Prelude.{ℕ, List, [], ◌∷◌, ◌++◌, if◌then◌else◌, Option, Some, codes, decimal, is_some}
use Rattle.std.specs.Str.{bytes_eq}
use Rattle.ioc_text.specs.Lines.{pin_number}
use Rattle.ioc_lines.specs.Entries.{Entry}
use Rattle.ioc_lines.specs.Lines.{last_dot, rest_from}
use Rattle.problem.specs.ClockValues.{clock_at}
use Rattle.problem.specs.declared.parts.ProblemParts.{ProblemParts}
use Rattle.ioc_write.specs.WriteBack.{change_of_key, named_by, pin_name, spelled, variable_of}
use Rattle.ioc_write.specs.declared.change.Change.{Change}
use Rattle.ioc_write.specs.declared.change.Change.TheVariants as change

abbrev pub change_with : ProblemParts → List ℕ → List ℕ → Option (List ℕ) → Change
change_with p at key value =
    if is_some (pin_number key) then named_by p at value
    else (if bytes_eq key (codes "Mcu.PinsNb") then change.Counted else change_of_key p at key (variable_of key))

abbrev pub entry_said : ProblemParts → List ℕ → ℕ → Entry → Change → List Entry
entry_said p at pins e change.Kept = e ∷ []
entry_said p at pins e change.Dropped = []
entry_said p at pins e (change.Named pin) = (e.0, pin_name p.tables pin) ∷ []
entry_said p at pins e (change.Renamed pin) = (pin_name p.tables pin ++ rest_from e.0 (last_dot e.0), e.1) ∷ []
entry_said p at pins e (change.Set v) = (e.0, spelled (clock_at p.clock at) v) ∷ []
entry_said p at pins e change.Counted = (e.0, decimal pins) ∷ []

-- an entry as the choice leaves it; nothing where its line is dropped
abbrev pub changed : ProblemParts → List ℕ → ℕ → Entry → List Entry
changed p at pins e = entry_said p at pins e (change_with p at e.0 (Some e.1))
