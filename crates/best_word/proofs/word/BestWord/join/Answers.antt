use Rattle.std.proofs.Common.{ap, ◌∙◌, arith}
use Rattle.search_api.specs.Accounts.{IsLegalRank}
use Rattle.best_word.proofs.Moves.{joins}
use Rattle.best_word.proofs.word.BestWord.join.Goals as goal

pub join_seat-requires : goal.join_seat-requires
join_seat-requires g c = let w = c.args.self.now in let j = w.table.shared.key in let e = c.into_seat-seat.ensures in (
  c.requires.seats.0.0,
  ap (λ s. s.table_id) e ∙ c.requires.seats.1.0,
  ap (λ s. s.me.1) e ∙ c.requires.seats.1.1,
  (let h = w.counts in omega arith),
  joins (IsLegalRank (g.J.Judge.meaning j)) _ _ _ _ c.requires.parts.0 (ap (λ s. s.me.0.part) e ∙ c.requires.parts.1),
)
