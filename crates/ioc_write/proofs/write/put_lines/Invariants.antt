use Rattle.std.proofs.Common.{◌≡◌, ◌+◌, ◌≤◌, length}
use Rattle.res_model.specs.Steps.{with_prefix}
use Rattle.ioc_lines.specs.Lines.{text_lines}
use Rattle.ioc_write.specs.WriteBack.{lines_written}
use Rattle.ioc_write.proofs.write.put_lines.Given as goal

abbrev pub invariant-write : goal.invariant-write
invariant-write l = record {
  same :
      with_prefix l.out.items (lines_written l.plan.problem.now l.plan.at.now l.plan.pins (l.number + 1) (text_lines l.rest))
      ≡ with_prefix l.fn.out.items (lines_written l.plan.problem.now l.plan.at.now l.plan.pins 1 (text_lines l.text));
  few : l.number + length l.rest ≤ length l.text;
}

abbrev pub decreases-write : goal.decreases-write
decreases-write l = length l.rest
