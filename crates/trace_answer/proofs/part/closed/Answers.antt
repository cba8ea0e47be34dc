use Rattle.trace_answer.proofs.PartLemmas.{first_bytes}
use Rattle.trace_answer.proofs.part.closed.Goals as goal

pub returns-clause-closed : goal.returns-clause-closed
returns-clause-closed c line is = first_bytes c.args.text.now line c.args.others.now _ c.close_at.result is c.close_at.ensures.within c.close_at.ensures.close
