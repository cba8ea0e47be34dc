use Rattle.std.proofs.Common.{refl}
use Rattle.board_fit.specs.Board.{IsBoardStatus, of_choice, of_none, of_width}
use Rattle.board_fit.proofs.StatusLemmas.{of_board}
use Rattle.board_fit.proofs.laws.board_has_one_of_three_statuses.Goals as goal

pub returns : goal.returns
returns c q w a due = of_board IsBoardStatus (of_choice refl) (of_none refl) (of_width refl) q w a due
