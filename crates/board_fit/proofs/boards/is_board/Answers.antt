use Rattle.board_fit.proofs.boards.is_board.Goals as goal

pub returns : goal.returns
returns c = record { valid = c.keeps_rules.ensures; ten = c.homes_of.ensures; few = c.requires.few; placed = c.requires.placed; hertz = c.requires.hertz; homes = c.requires.homes }
