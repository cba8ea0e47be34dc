-- Internal: how many values a signal has.
use Rattle.std.specs.Prelude.{◌≤◌, ℕ, length}
use Rattle.res_model.specs.declared.project.Signal.{Signal}
use Rattle.res_model.specs.declared.table.TableParts.{TableParts}
use Rattle.res_model.specs.Values.{values_of}

-- a signal has a value, and no more than a signal of the table has rows
pub record IsSized (t : TableParts) (s : Signal) : Type 0 where
  pub some : 1 ≤ length (values_of t s)
  pub few : length (values_of t s) ≤ 16
