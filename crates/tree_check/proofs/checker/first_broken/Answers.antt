use Rattle.std.proofs.Common.{◌≡◌, ◌<◌, List, [], ◌∷◌, ◌++◌, length, get_or, sym, subst, ◌∙◌, arith}
use Rattle.std.proofs.lemmas.Bool.Decides.{nat_tests}
use Rattle.std.proofs.lemmas.List.{nil_from_length}
use Rattle.choice_rank.specs.declared.variable.VarShape.{VarShape}
use Rattle.box_split.specs.declared.buffer.BoxBuf.{BoxBuf}
use Rattle.box_split.specs.BoxIn.{box_in}
use Rattle.box_split.specs.Boxes.{whole}
use Rattle.refutation.specs.declared.node.Node.{Node}
use Rattle.refutation.specs.declared.node.Node.TheVariants as node
use Rattle.tree_check.specs.Due.{boxes_of, AreBoxes}
use Rattle.tree_check.specs.Faults.{parts_of}
use Rattle.tree_check.proofs.LoopLemmas.{StandsAt, stands_first, none_due, broken, popped, stands_next, ended, ended_early}
use Rattle.tree_check.proofs.checker.first_broken.Given.{Over}
use Rattle.tree_check.proofs.checker.first_broken.Goals as goal
use Rattle.tree_check.proofs.checker.first_broken.Goals.{In-Some}

pub loop-number-init : goal.loop-number-init
loop-number-init g c =
    let m = g.R.Refuter.meaning c.args.r.now in
    let due = c.in_ok-due.due.items in
    let boxes = subst (λ (vs : List VarShape). boxes_of vs due ≡ whole vs ∷ []) c.shape-shape.ensures c.in_ok-due.ensures.boxes in
    let are = subst (λ (vs : List VarShape). AreBoxes vs (boxes_of vs due)) c.shape-shape.ensures c.in_ok-due.ensures.are_boxes in
    stands_first m c.args.bound c.args.nodes.now due boxes are

pub returns-in_default : goal.returns-in_default
returns-in_default g c =
    let m = g.R.Refuter.meaning c.args.r.now in
    let w = c.loop-number in
    let nil = nil_from_length w.due.items (omega (arith, c.in_default.ensures.cases, w.due.ok.0)) in
    none_due m c.args.bound c.args.nodes.now w.number (node.Split 0 0) c.loop-number-test.true (subst (λ (bs : List BoxBuf). StandsAt m c.args.bound c.args.nodes.now w.number bs) nil w.invariant)

-- the box of the node lies on top of the others
top : (g : Over) (c : In-Some g) → StandsAt (g.R.Refuter.meaning c.args.r.now) c.args.bound c.args.nodes.now c.loop-number.number (c.pop.new.self.items ++ c.in-Some.b ∷ [])
top g c = subst (λ (bs : List BoxBuf). StandsAt (g.R.Refuter.meaning c.args.r.now) c.args.bound c.args.nodes.now c.loop-number.number bs) c.in-Some.ensures.items c.loop-number.invariant

pub keeps_rule-requires-clause-is_box : goal.keeps_rule-requires-clause-is_box
keeps_rule-requires-clause-is_box g c =
    (popped (g.R.Refuter.meaning c.args.r.now) c.args.bound c.args.nodes.now c.loop-number.number (node.Split 0 0) c.loop-number-test.true c.pop.new.self.items c.in-Some.b (top g (goal.at.keeps_rule-requires-clause-is_box g c).In-Some)).0

pub returns-then-not-keeps_rule : goal.returns-then-not-keeps_rule
returns-then-not-keeps_rule g c =
    broken (g.R.Refuter.meaning c.args.r.now) c.args.bound c.args.nodes.now c.loop-number.number (node.Split 0 0) c.loop-number-test.true c.pop.new.self.items c.in-Some.b (top g (goal.at.returns-then-not-keeps_rule g c).In-Some)
    (sym c.keeps_rule.ensures ∙ c.if-not-keeps_rule.true)

pub loop-number-preserved : goal.loop-number-preserved
loop-number-preserved g c =
    let n : Node = get_or c.args.nodes.now c.loop-number.number (node.Split 0 0) in
    let new = c.push_parts.new.due.items in
    let shape = c.shape-shape.ensures in
    let boxes = subst (λ (vs : List VarShape). boxes_of vs new ≡ parts_of n (box_in vs c.in-Some.b) ++ boxes_of vs c.pop.new.self.items) shape c.in_ok-push_parts.ensures.boxes in
    let are = subst (λ (vs : List VarShape). AreBoxes vs (boxes_of vs new)) shape c.in_ok-push_parts.ensures.are_boxes in
    stands_next (g.R.Refuter.meaning c.args.r.now) c.args.bound c.args.nodes.now c.loop-number.number (node.Split 0 0) c.loop-number-test.true c.pop.new.self.items c.in-Some.b (top g (goal.at.loop-number-preserved g c).In-Some)
    new (sym c.keeps_rule.ensures ∙ c.if-not-keeps_rule.false) boxes are

pub returns-then-is_empty : goal.returns-then-is_empty
returns-then-is_empty g c =
    let w = c.loop-number in
    let none : length w.due.items ≡ 0 = grind (arith, nat_tests, c.is_empty.ensures, c.if-is_empty.true, w.due.ok.0) in
    ended (g.R.Refuter.meaning c.args.r.now) c.args.bound c.args.nodes.now w.number w.due.items (omega arith) none w.invariant

pub returns : goal.returns
returns g c =
    let w = c.loop-number in
    let some : 0 < length w.due.items = grind (arith, nat_tests, c.is_empty.ensures, c.if-is_empty.false, w.due.ok.0) in
    ended_early (g.R.Refuter.meaning c.args.r.now) c.args.bound c.args.nodes.now w.number w.due.items (omega arith) (omega arith) some w.invariant
