use Rattle.board_fit.proofs.SameLemmas.{same}
use Rattle.board_fit.proofs.laws.narrow_board_is_as_resolved.Goals as goal

pub returns : goal.returns
returns c t p opts board resolved is_board narrow of_board of_whole = same t p opts is_board narrow board resolved of_board of_whole
