use Rattle.std.proofs.Common.{sym, ◌∙◌}
use Rattle.text_lines.proofs.CutLemmas.{fields_cut, fields_whole}
use Rattle.text_lines.proofs.lines.first_field.Goals as goal

pub returns-in-Some : goal.returns-in-Some
returns-in-Some c = record { field = fields_cut c.args.text.now c.in-Some.at (sym c.place_of.ensures ∙ c.in-Some.is) }

pub returns-in-None : goal.returns-in-None
returns-in-None c = record { field = fields_whole c.args.text.now (sym c.place_of.ensures ∙ c.in-None.is) }
