use Rattle.std.proofs.Common.{arith}
use Rattle.search_api.specs.Accounts.{IsLegalRank}
use Rattle.best_word.proofs.Moves.{loads}
use Rattle.best_word.proofs.RankLemmas.{stands_for_a_rank}
use Rattle.best_word.proofs.word.BestWord.see.Goals as goal

pub load-found-requires : goal.load-found-requires
load-found-requires g c = let w = c.args.self.now in let j = w.table.shared.key in
    (c.requires.0, (let h = w.counts in omega arith), loads (IsLegalRank (g.J.Judge.meaning j)) (stands_for_a_rank (g.J.Judge.meaning j) (g.met.J.Judge.lawful j)) _ _ _ c.args.seat.now.live)

pub returns-then-found-lt-NONE-clause-saw : goal.returns-then-found-lt-NONE-clause-saw
returns-then-found-lt-NONE-clause-saw g c = c.load-found.ensures.2.0 c.if-found-lt-NONE.true
