use Rattle.explain.proofs.HelpLemmas.{Goes}
use Rattle.explain.proofs.helps.helps.Given as goal

abbrev pub invariant-loop-thing : goal.invariant-loop-thing
invariant-loop-thing l = Goes l.p.tables l.ioc l.opts l.p.signals l.thing-items l.thing-index l.out.items
