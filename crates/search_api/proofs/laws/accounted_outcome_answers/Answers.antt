use Rattle.search_api.proofs.AnswerLemmas.{answer}
use Rattle.search_api.proofs.laws.accounted_outcome_answers.Goals as goal

pub returns : goal.returns
returns c m best kept closed lawful a = answer m lawful best kept closed a
