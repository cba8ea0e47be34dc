use Rattle.ioc_project.proofs.ProjectLaws.{answer_keeps}
use Rattle.ioc_project.proofs.project.read_project.Goals as goal

pub returns-clause-keeps : goal.returns-clause-keeps
returns-clause-keeps c = answer_keeps c.args.t.now c.args.ioc.now c.args.opts.now c.args.clocks c.project_under.result c.project_under.ensures
