use Rattle.clock_limits.proofs.ChoiceLemmas.{limits_by_nodes}
use Rattle.clock_limits.proofs.choices.met_by.Goals as goal

pub returns : goal.returns
returns c = cc (limits_by_nodes c.args.t.now c.args.f.now c.args.c.now c.nodes-n.result c.requires.facts c.nodes-n.ensures)
