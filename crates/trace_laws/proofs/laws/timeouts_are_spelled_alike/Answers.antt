use Rattle.trace_laws.proofs.NameLaws.{alike}
use Rattle.trace_laws.proofs.laws.timeouts_are_spelled_alike.Goals as goal

pub returns : goal.returns
returns c name = alike name
