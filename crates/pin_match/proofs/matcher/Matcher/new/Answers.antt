use Rattle.pin_match.proofs.matcher.Matcher.new.Goals as goal

pub invariant_of-result : goal.invariant_of-result
invariant_of-result c = c.new-matching.ensures c.args.variables c.args.resources c.requires.variables c.requires.resources
