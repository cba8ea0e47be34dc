use Rattle.std.proofs.Common.{subst, sym}
use Rattle.res_model.specs.Clock.{IsInRange}
use Rattle.reg_machine.proofs.TreeLemmas.{choice_in_range}
use Rattle.reg_machine.proofs.clocks.choice_of.Goals as goal

pub returns-clause-range : goal.returns-clause-range
returns-clause-range c = subst IsInRange (sym c.fields_of.ensures) (choice_in_range c.args.s.now c.args.source c.requires)
