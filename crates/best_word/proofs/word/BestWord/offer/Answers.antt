use Rattle.std.proofs.Common.{arith}
use Rattle.search_api.specs.Accounts.{IsLegalRank}
use Rattle.best_word.proofs.Moves.{offers}
use Rattle.best_word.proofs.word.BestWord.offer.Goals as goal

pub fetch_min-requires : goal.fetch_min-requires
fetch_min-requires g c = let w = c.args.self.now in let j = w.table.shared.key in
    (c.requires.seat.0, (let h = w.counts in omega arith), offers (IsLegalRank (g.J.Judge.meaning j)) _ _ _ _ c.requires.legal c.args.seat.now.live)
