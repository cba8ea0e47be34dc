use Rattle.std.proofs.Common.{◌≡◌, List, true, sym, subst}
use Rattle.box_split.specs.BoxIn.{box_in}
use Rattle.box_split.specs.Boxes.{Run}
use Rattle.refutation.specs.declared.node.Node.{Node}
use Rattle.tree_check.specs.Due.{can_part, AreBoxes}
use Rattle.tree_check.specs.Faults.{can_split}
use Rattle.tree_check.proofs.StackLemmas.{parts_pushed, parts_are_boxes}
use Rattle.tree_check.proofs.stack.push_parts.Goals as goal

pub returns-in_ok-push-2-clause-are_boxes : goal.returns-in_ok-push-2-clause-are_boxes
returns-in_ok-push-2-clause-are_boxes c =
    let vs = c.args.s.now in
    let box = box_in vs c.args.b.now in
    let can : can_split c.in-Split.variable c.in-Split.after box ≡ true = subst (λ (n : Node). can_part n box ≡ true) c.in-Split.is c.requires.can_part in
    let old = c.args.due.now.items in
    let is = parts_pushed vs old c.push.new.self.items c.push-in-Split.new.self.items c.high_part.result c.low_part.result c.in-Split.variable c.in-Split.after box c.in_ok-push.ensures.items c.in_ok-push-2.ensures.items c.high_part.ensures c.low_part.ensures in
    subst (λ (bs : List (List Run)). AreBoxes vs bs) (sym is) (parts_are_boxes vs old c.in-Split.variable c.in-Split.after box c.requires.is_box can c.requires.are_boxes)
