use Rattle.ioc_text.specs.Index.{AreMarks}
use Rattle.ioc_text.proofs.marks.marks_of.Given as goal

abbrev pub invariant-loop-place : goal.invariant-loop-place
invariant-loop-place l = AreMarks l.lines l.marks.items l.place
