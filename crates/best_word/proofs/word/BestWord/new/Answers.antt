use Rattle.std.proofs.Common.{refl, arith}
use Rattle.search_api.specs.Accounts.{IsLegalRank}
use Rattle.best_word.proofs.Moves.{opens}
use Rattle.best_word.proofs.word.BestWord.new.Goals as goal

pub of_words-requires : goal.of_words-requires
of_words-requires g c = (9223372036854775808, refl, opens (IsLegalRank (g.J.Judge.meaning c.args.j.now)) 9223372036854775808 (omega arith))
