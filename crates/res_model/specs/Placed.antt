-- Where a signal of a project may be, under a table.
use Rattle.std.specs.Prelude.{◌≡◌, ℕ, ◌<◌, ◌≤◌, ◌==◌, ◌||◌, ◌⊎◌, List, [], length, Bool, true, false, if◌then◌else◌, Option, Some, None, is_some, IsTrue, IfSome, IsSomeAnd, codes}
use Rattle.std.specs.List.{list_any}
use Rattle.std.specs.Str.{bytes_eq}
use Rattle.res_model.specs.Signals.{signal_named, rows_of}
use Rattle.res_model.specs.declared.project.Signal.{Signal}
use Rattle.res_model.specs.declared.table.PinUse.{PinUse}
use Rattle.res_model.specs.declared.table.TableParts.{TableParts}
use Rattle.res_model.specs.declared.table.TableSignal.{TableSignal}

-- the name of a pin that is only held
unfoldable pub is_held : List ℕ → Bool
is_held name = bytes_eq name (codes "-")

-- the rows of the table's signal of a name
unfoldable pub rows_named : TableParts → List ℕ → List PinUse
rows_named t name = rows_of (signal_named t name)

-- the rows of a name; a pin that is only held has none
unfoldable pub rows_placed : TableParts → List ℕ → List PinUse
rows_placed t name = if is_held name then [] else rows_named t name

-- where there are rows, one of them is at the place
abbrev pub HasRowAt : List PinUse → ℕ → Type 0
HasRowAt rows place = (length rows ≡ 0) ⊎ IsTrue (list_any (λ (u : PinUse). u.pin == place) rows)

pub record IsPlaced (t : TableParts) (s : Signal) : Type 0 where
  -- the name is `-` or of the table
  pub named : IsTrue (is_held s.name || is_some (signal_named t s.name))
  -- a need has rows and no home
  pub needed : s.need ≡ true → (s.home ≡ None) × (0 < length (rows_named t s.name))
  -- any other signal has a home in the pin list
  pub at_home : s.need ≡ false → IsSomeAnd s.home (λ h. h < length t.pins)
  -- a locked signal with rows has one at its home
  pub stays : s.locked ≡ true → IfSome s.home (HasRowAt (rows_placed t s.name))
