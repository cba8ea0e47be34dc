use Rattle.std.proofs.Common.{◌∙◌}
use Rattle.search_core.proofs.RunLemmas.{opened}
use Rattle.search_core.proofs.state.Core.new.Goals as goal

pub returns-clause-fits : goal.returns-clause-fits
returns-clause-fits c = λ m.
    opened m c.args.workers c.requires.some c.of.result c.of-2.result c.of-3.result c.of-4.result (c.of.ensures ∙ c.in_ok-deques_of.ensures) (c.of-2.ensures ∙ c.in_ok-hands_of.ensures) (c.of-3.ensures ∙ c.new.ensures.items) (c.of-4.ensures ∙ c.new-2.ensures.items)
