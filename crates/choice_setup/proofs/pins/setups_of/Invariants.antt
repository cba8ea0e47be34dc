use Rattle.choice_setup.proofs.PinLemmas.{SetupsSoFar}
use Rattle.choice_setup.proofs.pins.setups_of.Given as goal

abbrev pub invariant-loop-signal : goal.invariant-loop-signal
invariant-loop-signal l = SetupsSoFar l.p l.at l.signal l.setups

abbrev pub decreases-loop-signal : goal.decreases-loop-signal
decreases-loop-signal l = l.signal
