use Rattle.explain_text.proofs.ValueLemmas.{are_filled}
use Rattle.explain_text.proofs.limits.have_values.Goals as goal

pub returns-clause-filled : goal.returns-clause-filled
returns-clause-filled c = are_filled c.args.p.now c.parts_agree.ensures c.requires
