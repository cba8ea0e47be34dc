use Rattle.std.proofs.Common.{arith}
use Rattle.search_api.specs.Accounts.{IsLegalRank}
use Rattle.best_word.proofs.Moves.{splits}
use Rattle.best_word.proofs.word.BestWord.split.Goals as goal

pub split_seat-requires : goal.split_seat-requires
split_seat-requires g c = let w = c.args.self.now in let j = w.table.shared.key in
    (c.requires.seat.0, (let h = w.counts in omega arith), splits (IsLegalRank (g.J.Judge.meaning j)) _ _ c.requires.first)
