use Rattle.can_timing.proofs.TimingLemmas.{in_ranges, has_choice}
use Rattle.can_timing.proofs.laws.choices_are_timings.Goals as goal

pub returns-clause-ranges : goal.returns-clause-ranges
returns-clause-ranges c = λ choice i. in_ranges choice i

pub returns-clause-all : goal.returns-clause-all
returns-clause-all c = λ t r. has_choice t r
