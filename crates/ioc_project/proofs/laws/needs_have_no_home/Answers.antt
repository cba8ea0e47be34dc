use Rattle.ioc_project.proofs.NeedLaws.{needs_have_no_home}
use Rattle.ioc_project.proofs.laws.needs_have_no_home.Goals as goal

pub returns : goal.returns
returns c = needs_have_no_home
