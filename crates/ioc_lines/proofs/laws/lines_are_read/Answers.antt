use Rattle.std.proofs.Common.{[]}
use Rattle.ioc_lines.proofs.EntryLemmas.{all_read, read_all}
use Rattle.ioc_lines.proofs.laws.lines_are_read.Goals as goal

pub returns-clause-each : goal.returns-clause-each
returns-clause-each c = λ ls found h. let r = read_all ls 1 [] found tt h in (r.each, r.is, r.apart)

pub returns-clause-all : goal.returns-clause-all
returns-clause-all c = λ ls r d. all_read ls 1 [] r d
