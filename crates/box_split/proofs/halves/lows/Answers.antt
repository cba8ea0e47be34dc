use Rattle.std.proofs.Common.{length, sym, subst, arith}
use Rattle.choice_rank.specs.Choices.{IsChoice}
use Rattle.box_split.proofs.WalkLemmas.{lows_runs}
use Rattle.box_split.proofs.PathLemmas.{lows_choice}
use Rattle.box_split.specs.BoxIn.{box_in}
use Rattle.box_split.proofs.halves.lows.Goals as goal

pub returns-clause-lows : goal.returns-clause-lows
returns-clause-lows c =
    rw c.vars.ensures.vars (sym (lows_runs (length c.args.s.now) c.args.b.now.lo c.args.b.now.hi (omega arith) (omega arith)))

pub returns-clause-choice : goal.returns-clause-choice
returns-clause-choice c =
    rw c.vars.ensures.vars (subst (IsChoice c.args.s.now) (lows_runs (length c.args.s.now) c.args.b.now.lo c.args.b.now.hi (omega arith) (omega arith))
    (lows_choice c.args.s.now (box_in c.args.s.now c.args.b.now) c.requires))
