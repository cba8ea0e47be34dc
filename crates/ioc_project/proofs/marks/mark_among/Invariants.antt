use Rattle.std.proofs.Common.{◌≡◌, drop}
use Rattle.std.specs.List.{list_any}
use Rattle.std.specs.Str.{bytes_eq}
use Rattle.ioc_project.proofs.marks.mark_among.Given as goal

abbrev pub invariant-loop-mark : goal.invariant-loop-mark
invariant-loop-mark l = list_any (bytes_eq l.text) (drop l.mark-index l.marks) ≡ list_any (bytes_eq l.text) l.marks
