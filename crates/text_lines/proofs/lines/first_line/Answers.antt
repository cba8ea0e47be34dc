use Rattle.std.proofs.Common.{sym, ◌∙◌}
use Rattle.text_lines.proofs.CutLemmas.{bytes_cut, bytes_whole, lines_cut, lines_whole}
use Rattle.text_lines.proofs.lines.first_line.Goals as goal

pub returns-in-Some-clause-line : goal.returns-in-Some-clause-line
returns-in-Some-clause-line c = lines_cut c.args.text.now c.in-Some.at (sym c.place_of.ensures ∙ c.in-Some.is)

pub returns-in-None-clause-line : goal.returns-in-None-clause-line
returns-in-None-clause-line c = lines_whole c.args.text.now (sym c.place_of.ensures ∙ c.in-None.is) c.requires

pub returns-in-Some-clause-bytes : goal.returns-in-Some-clause-bytes
returns-in-Some-clause-bytes c = bytes_cut c.args.text.now c.in-Some.at (sym c.place_of.ensures ∙ c.in-Some.is)

pub returns-in-None-clause-bytes : goal.returns-in-None-clause-bytes
returns-in-None-clause-bytes c = bytes_whole c.args.text.now
