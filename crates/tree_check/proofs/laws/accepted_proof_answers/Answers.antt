use Rattle.tree_check.proofs.AnswerLemmas.{answer}
use Rattle.tree_check.proofs.laws.accepted_proof_answers.Goals as goal

pub returns : goal.returns
returns c = λ m bound nodes sound a. answer m sound bound nodes a
