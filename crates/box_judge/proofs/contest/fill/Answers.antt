use Rattle.std.proofs.Common.{◌≢◌, ◌<◌, length, ap, ◌∙◌, below_more, arith}
use Rattle.std.proofs.lemmas.List.{get_or-set_same, get_or-set_other}
use Rattle.res_base.specs.VarSet.{in_set}
use Rattle.pin_match.proofs.SetLemmas.{nothing}
use Rattle.box_rules.proofs.MemberLemmas.{filled, member_within}
use Rattle.box_judge.proofs.contest.fill.Goals as goal

pub wanted-requires-clause-place : goal.wanted-requires-clause-place
wanted-requires-clause-place c = member_within c.args.t.now c.args.class c.args.uses.now c.args.lo.now c.args.hi.now c.requires.low c.requires.high c.requires.inside c.args.members.now c.requires.members c.loop-i.i (omega arith)

pub loop-i-preserved : goal.loop-i-preserved
loop-i-preserved c =
    below_more _ _
    (λ k h r. let ne : k ≢ c.loop-i.i = omega arith in ap (λ s. in_set s r) (get_or-set_other c.loop-i.sets c.loop-i.i k c.wanted.result nothing ne) ∙ c.loop-i.invariant k h r)
    (λ r. let lt : c.loop-i.i < length c.loop-i.sets = omega arith in ap (λ s. in_set s r) (get_or-set_same c.loop-i.sets c.loop-i.i c.wanted.result nothing lt) ∙ c.wanted.ensures r)

pub returns : goal.returns
returns c v =
    filled c.args.t.now c.args.class c.args.uses.now c.args.lo.now c.args.hi.now c.requires.low c.requires.high c.requires.inside c.loop-i.sets c.args.members.now c.requires.members (omega arith) (λ k h. c.loop-i.invariant k (omega arith)) v
