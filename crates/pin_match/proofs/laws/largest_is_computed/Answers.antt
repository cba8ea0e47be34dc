use Rattle.pin_match.proofs.FreedLemmas.{none_is_full, some_is_hall}
use Rattle.pin_match.proofs.LargestLemmas.{most_attained, most_upper, left_out_is, hall_none}
use Rattle.pin_match.proofs.laws.largest_is_computed.Goals as goal

pub returns : goal.returns
returns c = record {
  reached = most_attained;
  greatest = most_upper;
  left_out = left_out_is;
  full = λ n m fits. (none_is_full n m fits, hall_none n m fits);
  hall = some_is_hall;
}
