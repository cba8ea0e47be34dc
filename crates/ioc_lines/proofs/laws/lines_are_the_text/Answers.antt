use Rattle.ioc_lines.proofs.TextCuts.{ended_lines}
use Rattle.ioc_lines.proofs.TextLemmas.{they_are, they_say}
use Rattle.ioc_lines.proofs.laws.lines_are_the_text.Goals as goal

pub returns-clause-says : goal.returns-clause-says
returns-clause-says c = λ text. they_say text

pub returns-clause-whole : goal.returns-clause-whole
returns-clause-whole c = λ text. they_are text

pub returns-clause-ended : goal.returns-clause-ended
returns-clause-ended c = λ ls rest h. ended_lines ls rest h
