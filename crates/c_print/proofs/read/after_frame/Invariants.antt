use Rattle.std.proofs.Common.{◌≡◌, ◌++◌, take}
use Rattle.std.specs.List.{concat}
use Rattle.c_print.specs.Text.{frame}
use Rattle.c_print.proofs.read.after_frame.Given as goal

abbrev pub invariant-loop-place : goal.invariant-loop-place
invariant-loop-place l = l.text ≡ concat (take l.place (frame l.over)) ++ l.rest
