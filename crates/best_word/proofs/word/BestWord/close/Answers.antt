use Rattle.std.proofs.Common.{ap, ◌∙◌}
use mathlib.Core.Option.{some}
use Rattle.search_api.specs.Accounts.{IsLegalRank}
use Rattle.best_word.proofs.Moves.{closes}
use Rattle.best_word.proofs.RankLemmas.{stands_for_a_rank}
use Rattle.best_word.proofs.word.BestWord.close.Goals as goal

pub returns-then-found-lt-NONE-clause-least : goal.returns-then-found-lt-NONE-clause-least
returns-then-found-lt-NONE-clause-least g c =
    let j = c.args.self.table.shared.key in let f = c.close_with-closed.ensures.values.2 in let v = c.args.seat.seat.me.0 in
    let k = closes (IsLegalRank (g.J.Judge.meaning j)) (stands_for_a_rank (g.J.Judge.meaning j) (g.met.J.Judge.lawful j)) c.word-found.result _ v f.0 _ f.1.0 (f.1.1 ∙ ap (λ s. some s.me.0) c.into_seat-seat.ensures) f.2 c.word-found.ensures c.requires.alone.0 c.requires.alone.1 in
    k.0 c.if-found-lt-NONE.true

pub returns-then-found-lt-NONE-clause-saw : goal.returns-then-found-lt-NONE-clause-saw
returns-then-found-lt-NONE-clause-saw g c =
    let j = c.args.self.table.shared.key in let f = c.close_with-closed.ensures.values.2 in let v = c.args.seat.seat.me.0 in
    let k = closes (IsLegalRank (g.J.Judge.meaning j)) (stands_for_a_rank (g.J.Judge.meaning j) (g.met.J.Judge.lawful j)) c.word-found.result _ v f.0 _ f.1.0 (f.1.1 ∙ ap (λ s. some s.me.0) c.into_seat-seat.ensures) f.2 c.word-found.ensures c.requires.alone.0 c.requires.alone.1 in
    k.2

pub returns-else-found-lt-NONE-clause-none : goal.returns-else-found-lt-NONE-clause-none
returns-else-found-lt-NONE-clause-none g c =
    let j = c.args.self.table.shared.key in let f = c.close_with-closed.ensures.values.2 in let v = c.args.seat.seat.me.0 in
    let k = closes (IsLegalRank (g.J.Judge.meaning j)) (stands_for_a_rank (g.J.Judge.meaning j) (g.met.J.Judge.lawful j)) c.word-found.result _ v f.0 _ f.1.0 (f.1.1 ∙ ap (λ s. some s.me.0) c.into_seat-seat.ensures) f.2 c.word-found.ensures c.requires.alone.0 c.requires.alone.1 in
    k.1 c.if-found-lt-NONE.false

pub returns-else-found-lt-NONE-clause-saw : goal.returns-else-found-lt-NONE-clause-saw
returns-else-found-lt-NONE-clause-saw g c =
    let j = c.args.self.table.shared.key in let f = c.close_with-closed.ensures.values.2 in let v = c.args.seat.seat.me.0 in
    let k = closes (IsLegalRank (g.J.Judge.meaning j)) (stands_for_a_rank (g.J.Judge.meaning j) (g.met.J.Judge.lawful j)) c.word-found.result _ v f.0 _ f.1.0 (f.1.1 ∙ ap (λ s. some s.me.0) c.into_seat-seat.ensures) f.2 c.word-found.ensures c.requires.alone.0 c.requires.alone.1 in
    k.2
