use Rattle.ioc_without.specs.Starts.{empty}
use Rattle.ioc_without.proofs.starts.some_start.Goals as goal

pub returns-then-text-at-eq10-clause-nothing : goal.returns-then-text-at-eq10-clause-nothing
returns-then-text-at-eq10-clause-nothing c = empty c.args.at c.requires.inside c.requires.whole c.requires.before c.if-text-at-eq10.true
