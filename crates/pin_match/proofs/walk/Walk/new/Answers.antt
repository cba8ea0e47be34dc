use Rattle.pin_match.proofs.SearchLemmas.{started_empty}
use Rattle.pin_match.proofs.walk.Walk.new.Goals as goal

pub returns : goal.returns
returns c n f few = started_empty n f few
