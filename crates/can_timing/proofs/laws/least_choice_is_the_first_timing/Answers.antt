use Rattle.can_timing.proofs.FieldLemmas.{first}
use Rattle.can_timing.proofs.laws.least_choice_is_the_first_timing.Goals as goal

pub returns-clause-serves : goal.returns-clause-serves
returns-clause-serves c = λ q choice least. least.is_legal

pub returns-clause-first : goal.returns-clause-first
returns-clause-first c = λ q choice least t r s. first q choice least t r s
