use Rattle.std.proofs.Common.{length, ◌∙◌, subst, arith}
use Rattle.best_word.specs.Handles.{best_view, judge_of}
use Rattle.steal_pool.specs.Crews.{IsBack, IsTakingIn}
use Rattle.steal_pool.proofs.CrewLemmas.{crew_pop, took, taken_all, taking_none}
use Rattle.steal_pool.proofs.RowLemmas.{no_items}
use Rattle.steal_pool.proofs.gather.gather.Goals as goal

pub loop-shift-init : goal.loop-shift-init
loop-shift-init g c = (
  c.requires.seat.0,
  (c.requires.back.0, taking_none (g.J.Judge.meaning (judge_of c.args.word.now)) c.args.word.now c.requires.back.0 (best_view c.args.seat.now) (record { owners = c.new.result; rows = c.new-2.result; closed = c.of.result }) c.args.shifts.items c.new.ensures.items c.new-2.ensures.items (c.of.ensures ∙ c.new-3.ensures.items) c.requires.seat.1 c.requires.back.1),
)

pub take_in-requires-clause-seat : goal.take_in-requires-clause-seat
take_in-requires-clause-seat g c κs within = (c.loop-shift.invariant.0, c.loop-shift.invariant.1.1.first)

pub take_in-requires-clause-back : goal.take_in-requires-clause-back
take_in-requires-clause-back g c κs within =
    let m = g.J.Judge.meaning (judge_of c.args.word.now) in
    let i = c.loop-shift.invariant.1.1 in
    let all = c.loop-shift.invariant.1.0 in
    let moved = subst (λ ss. IsTakingIn m c.args.word.now (length c.args.shifts.items) all (best_view c.loop-shift.seat) c.loop-shift.gathered ss) c.in-Some.ensures.items i in
    (crew_pop (IsBack m c.args.word.now (length c.args.shifts.items) all) _ _ all c.pop.new.self.items c.in-Some.shift moved.crew).0.ended

pub loop-shift-preserved : goal.loop-shift-preserved
loop-shift-preserved g c =
    let m = g.J.Judge.meaning (judge_of c.args.word.now) in
    let i = c.loop-shift.invariant.1.1 in
    let all = c.loop-shift.invariant.1.0 in
    let n = length c.args.shifts.items in
    let moved = subst (λ ss. IsTakingIn m c.args.word.now n all (best_view c.loop-shift.seat) c.loop-shift.gathered ss) c.in-Some.ensures.items i in
    (c.take_in.ensures.seat, (all, took m c.args.word.now n all (best_view c.loop-shift.seat) (best_view c.take_in.new.seat) c.loop-shift.gathered c.take_in.new.gathered c.pop.new.self.items c.in-Some.shift c.in_ok-take_in.ensures.taken moved))

pub returns-clause-gathered : goal.returns-clause-gathered
returns-clause-gathered g c =
    let m = g.J.Judge.meaning (judge_of c.args.word.now) in
    let none = no_items c.loop-shift.shifts.items (let k = c.in_default.ensures.cases in omega arith) in
    taken_all m c.args.word.now (length c.args.shifts.items) c.loop-shift.invariant.1.0 (best_view c.loop-shift.seat) c.loop-shift.gathered c.loop-shift.shifts.items none c.loop-shift.invariant.1.1
