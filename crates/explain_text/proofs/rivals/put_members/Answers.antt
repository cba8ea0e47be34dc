use Rattle.std.proofs.Common.{◌++◌, ◌∙◌, ℕ, List, ap, sym, append-nil, arith}
use Rattle.explain_text.specs.Reasons.{member_line}
use Rattle.explain_text.specs.Joined.{joined}
use Rattle.explain_text.proofs.JoinedLemmas.{one_more, all}
use Rattle.explain_text.proofs.rivals.put_members.Goals as goal

pub loop-v-init : goal.loop-v-init
unfolding joined
loop-v-init c = sym (append-nil c.args.out.now.items)

pub loop-v-preserved : goal.loop-v-preserved
loop-v-preserved c =
    one_more (member_line c.args.p.now c.args.vars.now) c.args.out.now.items c.loop-v.out.items c.extend_from_slice.new.self.items c.loop-v.v c.loop-v.invariant
    (c.in_ok-extend_from_slice.ensures.items ∙ ap (λ (l : List ℕ). c.loop-v.out.items ++ l) (c.as_bytes.ensures.value ∙ c.in_ok-line.ensures))

pub returns : goal.returns
returns c = all (member_line c.args.p.now c.args.vars.now) c.args.out.now.items c.loop-v.out.items c.loop-v.v (192) (omega arith) c.loop-v.invariant
