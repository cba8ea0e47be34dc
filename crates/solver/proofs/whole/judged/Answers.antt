use Rattle.std.proofs.Common.{subst, sym}
use Rattle.box_rules.specs.Judged.{IsWhole}
use Rattle.solver.proofs.whole.judged.Goals as goal

pub reported-requires-clause-is_whole : goal.reported-requires-clause-is_whole
reported-requires-clause-is_whole g c = subst IsWhole (sym c.problem.ensures) c.args.judge.now.whole
