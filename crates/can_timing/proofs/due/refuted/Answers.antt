use Rattle.std.proofs.Common.{ap}
use Rattle.answers.specs.Said.{answered}
use Rattle.answers.specs.declared.answer.Status.TheVariants.{NoChoice}
use Rattle.can_timing.specs.Texts as due
use Rattle.can_timing.proofs.WalkLemmas.{is_refutation, none_is_legal}
use Rattle.can_timing.proofs.due.refuted.Goals as goal

pub returns : goal.returns
returns c =
    let q = c.args.j.now.request in
    let text = c.put_line.new.out.items in
    due.refuted text (none_is_legal q c.args.nodes.items c.requires) (is_refutation q c.args.nodes.items text c.requires c.in_ok-put_line.ensures.ok) (ap (answered NoChoice) c.of.ensures)
