-- What a clause says of a word and of a seat.
use Rattle.std.specs.Prelude.{◌≡◌, []}
use Rattle.best_word.specs.declared.word.View.{View}
use Rattle.best_word.specs.declared.word.BestWord.{BestWord}
use Rattle.best_word.specs.declared.word.BestSeat.{BestSeat}

module _ {J : Type 0} where
  abbrev pub best_view : BestSeat J → View J
  best_view s = s.seat.me.0

  abbrev pub IsSeatOf : {S : Type 0} → BestWord J S → BestSeat J → Type 0
  IsSeatOf word s = (s.seat.table_id ≡ word.table.shared.table_id) × (s.seat.me.1 ≡ [])

  abbrev pub judge_of : {S : Type 0} → BestWord J S → J
  judge_of word = word.table.shared.key
