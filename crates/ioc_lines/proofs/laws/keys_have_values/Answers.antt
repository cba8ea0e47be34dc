use Rattle.ioc_lines.proofs.LookupLemmas.{entries_on, line_value, pins_shown}
use Rattle.ioc_lines.proofs.laws.keys_have_values.Goals as goal

pub returns-clause-lines : goal.returns-clause-lines
returns-clause-lines c = λ n ls. entries_on n ls

pub returns-clause-value : goal.returns-clause-value
returns-clause-value c = λ ioc key. line_value ioc key

pub returns-clause-pins : goal.returns-clause-pins
returns-clause-pins c = λ ioc. pins_shown ioc
