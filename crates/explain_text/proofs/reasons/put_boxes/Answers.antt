use Rattle.std.proofs.Common.{◌++◌, ◌∙◌, ℕ, List, ap, sym, append-nil, arith}
use Rattle.explain_text.specs.Reasons.{limit_boxes}
use Rattle.explain_text.specs.Joined.{joined}
use Rattle.explain_text.proofs.JoinedLemmas.{one_more, all}
use Rattle.explain_text.proofs.reasons.put_boxes.Goals as goal

pub loop-i-init : goal.loop-i-init
unfolding joined
loop-i-init c = sym (append-nil c.args.out.now.items)

pub loop-i-preserved : goal.loop-i-preserved
loop-i-preserved c =
    one_more (limit_boxes c.args.nodes.now) c.args.out.now.items c.loop-i.out.items c.extend_from_slice.new.self.items c.loop-i.i c.loop-i.invariant
    (c.in_ok-extend_from_slice.ensures.items ∙ ap (λ (l : List ℕ). c.loop-i.out.items ++ l) (c.as_bytes.ensures.value ∙ c.in_ok-line.ensures))

pub returns : goal.returns
returns c = all (limit_boxes c.args.nodes.now) c.args.out.now.items c.loop-i.out.items c.loop-i.i 15 (omega arith) c.loop-i.invariant
