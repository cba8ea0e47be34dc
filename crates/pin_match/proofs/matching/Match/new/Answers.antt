use Rattle.pin_match.proofs.HallLemmas.{none_paired}
use Rattle.pin_match.proofs.matching.Match.new.Goals as goal

pub returns : goal.returns
returns c n m ln lm = none_paired n m ln lm
