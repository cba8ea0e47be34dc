use Rattle.std.proofs.Common.{List, subst, sym}
use Rattle.choice_rank.specs.declared.variable.VarShape.{VarShape}
use Rattle.search_api.specs.Accounts.{IsLegalRank}
use Rattle.best_word.specs.Tests.{free_meaning, one_is_legal}
use Rattle.search_rows.proofs.words.offer_one.Goals as goal

pub offer-requires-clause-legal : goal.offer-requires-clause-legal
offer-requires-clause-legal c l = subst (λ (vars : List VarShape). IsLegalRank (free_meaning vars) 1) (sym c.requires.judge) one_is_legal
