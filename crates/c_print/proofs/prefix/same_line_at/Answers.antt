use Rattle.std.proofs.Common.{rules}
use Rattle.c_print.proofs.FrameLemmas.{NoFrameLine, no_other, is_line}
use Rattle.c_print.proofs.prefix.same_line_at.Goals as goal

pub returns-in_err-rest : goal.returns-in_err-rest
returns-in_err-rest c =
    let none : NoFrameLine c.args.place c.args.over c.args.text.now = no_other c.args.over c.args.place c.args.text.now c.frame_part.result c.requires.place c.requires.other c.frame_part.ensures c.in_err-rest.ensures in
    search rules

pub returns : goal.returns
returns c = is_line c.args.over c.args.place c.args.text.now c.frame_part.result c.in_ok-rest.rest.now c.frame_part.ensures c.in_ok-rest.ensures
