use Rattle.std.proofs.Common.{[], ◌∷◌, Bool, subst}
use Rattle.best_word.specs.Handles.{best_view}
use Rattle.steal_worker.specs.Flows.{FlowsOn}
use Rattle.steal_worker.specs.Walks.{Walks, held_places, in_hand}
use Rattle.steal_pool.proofs.HandLemmas.{popped_walks, popped_flows}
use Rattle.steal_pool.proofs.rest.turn.Goals as goal

pub returns-in-false-clause-walks : goal.returns-in-false-clause-walks
returns-in-false-clause-walks g c =
    let m = g.J.Judge.meaning c.args.j.now in
    let w = c.settle.new.walker in
    let p = c.settle.new.place in
    popped_walks m w.number (best_view w.seat) (held_places w.held) (held_places c.pop.new.self) w.closed c.pop.result c.pop.new.hand c.pop.ensures.popped
    (subst (λ (b : Bool). Walks m w.number (in_hand b p) (best_view w.seat) (held_places w.held) w.closed) c.in-false.is c.in_ok-settle.ensures.walks)

pub returns-in-false-clause-flows : goal.returns-in-false-clause-flows
returns-in-false-clause-flows g c = λ came went f.
    let m = g.J.Judge.meaning c.args.j.now in
    let old = c.args.walker.now in
    let w = c.settle.new.walker in
    let p = c.settle.new.place in
    popped_flows m (held_places w.held) (held_places c.pop.new.self) w.closed c.pop.result c.pop.new.hand c.pop.ensures.popped came went
    (subst (λ (b : Bool). FlowsOn m (c.args.place.now ∷ []) (held_places old.held) old.closed (in_hand b p) (held_places w.held) w.closed) c.in-false.is c.in_ok-settle.ensures.flows came went f)
