use Rattle.std.proofs.Common.{◌≡◌, length, ap, ◌∙◌, arith}
use Rattle.problem.specs.declared.parts.ProblemParts.{ProblemParts}
use Rattle.choice_setup.specs.SetUp.{setups_from}
use Rattle.choice_setup.proofs.PinLemmas.{all_set, nothing_set}
use Rattle.choice_setup.proofs.pins.setups_of.Goals as goal

pub loop-signal-init : goal.loop-signal-init
loop-signal-init c = nothing_set c.args.p.now c.args.at.now c.len-signal.result (c.len-signal.ensures ∙ ap (λ (x : ProblemParts). length x.signals) c.parts.ensures)

pub returns : goal.returns
returns c =
    let none : c.loop-signal.signal ≡ 0 = omega arith in
    c.loop-signal.invariant.setups_are ∙ ap (setups_from c.args.p.now c.args.at.now) none ∙ all_set c.args.p.now c.args.at.now
