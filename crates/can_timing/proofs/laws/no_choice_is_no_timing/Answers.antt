use Rattle.can_timing.proofs.FieldLemmas.{no_timing, no_choice}
use Rattle.can_timing.proofs.laws.no_choice_is_no_timing.Goals as goal

pub returns : goal.returns
returns c = λ q. (no_timing q, no_choice q)
