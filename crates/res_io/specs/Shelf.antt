-- Internal: files in memory of which one may be open, as their user sees them.
use Rattle.std.specs.Prelude.{ℕ, List, Option}
use Rattle.res_io.specs.declared.memory.MemFile.{MemFile}

-- the files, the name that is open, what is left of it, and how many bytes of it were taken
pub record ShelfState : Type 0 where
  pub files : List MemFile
  pub name : Option (List ℕ)
  pub rest : List ℕ
  pub taken : ℕ
