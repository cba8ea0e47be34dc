use Rattle.std.proofs.Common.{◌∙◌, sym}
use Rattle.ioc_write.proofs.Cuts.{one_line, line_and_more}
use Rattle.ioc_write.proofs.lines.first_line.Goals as goal

pub returns-in-None-clause-lines : goal.returns-in-None-clause-lines
returns-in-None-clause-lines c = one_line c.args.text.now c.requires (sym c.newline_at.ensures ∙ c.in-None.is)

pub returns-in-Some-clause-lines : goal.returns-in-Some-clause-lines
returns-in-Some-clause-lines c = rw (c.without_return.ensures, c.ending.ensures) (line_and_more c.args.text.now c.in-Some.at (sym c.newline_at.ensures ∙ c.in-Some.is))
