use Rattle.std.proofs.Common.{◌∙◌, sym}
use Rattle.ioc_text.specs.Index.{mark_of}
use Rattle.ioc_text.proofs.Orders.{least_taken, least_kept, least_of_all}
use Rattle.ioc_text.proofs.marks.first_repeat.Goals as goal
use Rattle.ioc_text.proofs.marks.first_repeat.Goals.{then-same_key, else-same_key}

pub loop-at-preserved : goal.loop-at-preserved
loop-at-preserved c = elim c.if-same_key.branch [
  | then-same_key w ↦
      least_taken c.args.lines.now c.args.marks.now c.loop-at.at c.loop-at.first c.if-same_key.first (record { sum = 0; place = 0 }) c.loop-at.invariant c.loop-at.auto.at c.loop-at-test.true c.requires
      (sym c.same_key.ensures ∙ w.if-same_key.true) (w.first-is ∙ w.min-first.ensures)
  | else-same_key w ↦
      least_kept c.args.lines.now c.args.marks.now c.loop-at.at c.loop-at.first c.if-same_key.first (record { sum = 0; place = 0 }) c.loop-at.invariant c.loop-at.auto.at c.loop-at-test.true
      (sym c.same_key.ensures ∙ w.if-same_key.false) w.first-is
]

pub returns : goal.returns
returns c = least_of_all c.args.lines.now c.args.marks.now c.loop-at.at c.loop-at.first (mark_of c.args.lines.now 0) c.requires c.loop-at.invariant c.loop-at-test.false
