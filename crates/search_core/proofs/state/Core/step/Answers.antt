use Rattle.search_core.proofs.RunLemmas.{answer_fits}
use Rattle.search_core.proofs.state.Core.step.Goals as goal

pub returns-clause-core : goal.returns-clause-core
returns-clause-core g c =
    answer_fits (g.J.Judge.meaning c.args.j.now) (g.met.J.Judge.lawful c.args.j.now) c.args.self.now c.go.new.core c.args.e c.go.result c.go.ensures.answer c.requires.core
