use Rattle.std.proofs.Common.{◌≡◌, ◌++◌}
use Rattle.res_base.specs.Lists.{Each}
use Rattle.reg_machine.specs.Legal.{is_legal}
use Rattle.reg_machine.specs.Words.{IsOp}
use Rattle.reg_trace.specs.Lines.{text_of}
use Rattle.reg_trace.specs.Turn.{run_lines, run_over}
use Rattle.reg_trace.proofs.RunLemmas.{Stands}
use Rattle.reg_trace.proofs.run.put_run.Given as goal

abbrev pub invariant-steps : goal.invariant-steps
invariant-steps l = record {
  table : l.m.table ≡ l.fn.m.table;
  want : l.m.want ≡ l.fn.m.want;
  there : Each IsOp l.todo;
  known : l.legal ≡ is_legal l.m.table l.m.want l.m.state;
  stands : Stands (is_legal l.fn.m.table l.fn.m.want) (run_over l.fn.m l.ops l.answers) (l.fn.out.items ++ text_of (run_lines l.fn.m l.ops l.answers)) l.out.items l.number l.left l.fine l.todo l.coming l.m.state;
}

abbrev pub decreases-steps : goal.decreases-steps
decreases-steps l = l.left
