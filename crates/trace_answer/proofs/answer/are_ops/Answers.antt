use Rattle.trace_answer.proofs.OpLemmas.{are_ops}
use Rattle.trace_answer.proofs.answer.are_ops.Goals as goal

pub returns : goal.returns
returns c = are_ops c.args.ops.now c.requires
