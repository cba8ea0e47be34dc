use Rattle.std.proofs.Common.{subst, sym}
use Rattle.res_base.specs.Lists.{Each}
use Rattle.choice_setup.specs.SetUp.{setting_of}
use Rattle.reg_machine.specs.Words.{IsOp}
use Rattle.solver.proofs.OpLemmas.{few_setups, are_ops}
use Rattle.solver.proofs.whole.are_registers.Goals as goal

pub returns : goal.returns
returns c =
    let p = c.args.p.now in
    let at = c.args.at.now in
    subst (Each IsOp) (sym c.requires) (are_ops (setting_of p at) (few_setups p at))
