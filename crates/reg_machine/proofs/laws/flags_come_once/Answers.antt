use Rattle.std.proofs.Common.{ap}
use Rattle.reg_machine.specs.Step.{act}
use Rattle.reg_machine.proofs.FlagLemmas.{flags_again}
use Rattle.reg_machine.proofs.laws.flags_come_once.Goals as goal

pub returns-clause-same : goal.returns-clause-same
returns-clause-same c a s = flags_again a s

pub returns-clause-step : goal.returns-clause-step
returns-clause-step c s op a = ap (λ u. act u op) (flags_again a s)
