use Rattle.std.proofs.Common.{◌≡◌, [], ◌++◌, List, sym, ap, ◌∙◌, subst, arith, append-nil}
use Rattle.res_base.specs.Lists.{total}
use Rattle.best_word.specs.Handles.{best_view}
use Rattle.path_deque.specs.Ends.{owner_tally}
use Rattle.search_api.specs.declared.place.Place.{Place}
use Rattle.steal_worker.specs.Flows.{Flows}
use Rattle.steal_worker.specs.Jobs.{came_by, went_into}
use Rattle.steal_worker.specs.Walks.{Walks, held_places, in_hand}
use Rattle.steal_worker.proofs.FlowActs.{flow_pop, flow_same, flow_found}
use Rattle.steal_worker.proofs.WalkActs.{walks_pop, walks_found}
use Rattle.steal_worker.proofs.worker.take.Goals as goal

pub returns-then-pop-clause-works : goal.returns-then-pop-clause-works
returns-then-pop-clause-works g c =
    let m = g.J.Judge.meaning c.args.j.now in
    let job = c.args.job.now in
    let w = job.walker in
    let p = c.pop.new.hand in
    let is = subst (λ b. held_places w.held ≡ held_places c.pop.new.self ++ in_hand b p) c.if-pop.true c.pop.ensures.popped in
    record {
      walks = walks_pop m w.number p (best_view w.seat) (held_places w.held) (held_places c.pop.new.self) w.closed is c.requires.walks;
      flows = flow_pop m p (held_places w.held) (held_places c.pop.new.self) w.closed is (came_by w.number (owner_tally job.owner) job.thieves.items) (went_into (owner_tally job.owner)) c.requires.flows;
      owner = c.requires.owner;
      thieves = c.requires.thieves;
    }

pub returns-in-Some-clause-works : goal.returns-in-Some-clause-works
returns-in-Some-clause-works g c =
    let m = g.J.Judge.meaning c.args.j.now in
    let job = c.args.job.now in
    let w = job.walker in
    let held = held_places c.pop.new.self in
    let same : held ≡ held_places w.held = sym (subst (λ b. held_places w.held ≡ held ++ in_hand b c.pop.new.hand) c.if-pop.false c.pop.ensures.popped ∙ append-nil held) in
    let t = owner_tally job.owner in
    let u = owner_tally c.find.new.owner in
    let f = c.find.ensures in
    let x = c.in-Some.path in
    let p = c.put_place.new.hand in
    record {
      walks = walks_found m w.number x c.put_place.result p (best_view w.seat) held w.closed c.put_place.ensures (c.pop.ensures.none c.if-pop.false) (subst (λ (x : List Place). Walks m w.number [] (best_view w.seat) x w.closed) (sym same) c.requires.walks);
      flows = flow_found m (came_by w.number t job.thieves.items) (came_by w.number u c.find.new.thieves.items) (went_into t) (went_into u) x c.put_place.result p held w.closed c.put_place.ensures
          (λ h. let a = c.in-Some.ensures.got h in omega (arith, a)) (λ h. ap (total h) f.owner.2)
          (subst (λ (x : List Place). Flows m (came_by w.number t job.thieves.items) (went_into t) [] x w.closed) (sym same) c.requires.flows);
      owner = f.owner.0;
      thieves = f.thieves;
    }

pub returns-in-None-clause-works : goal.returns-in-None-clause-works
returns-in-None-clause-works g c =
    let m = g.J.Judge.meaning c.args.j.now in
    let job = c.args.job.now in
    let w = job.walker in
    let held = held_places c.pop.new.self in
    let same : held ≡ held_places w.held = sym (subst (λ b. held_places w.held ≡ held ++ in_hand b c.pop.new.hand) c.if-pop.false c.pop.ensures.popped ∙ append-nil held) in
    let t = owner_tally job.owner in
    let u = owner_tally c.find.new.owner in
    let f = c.find.ensures in
    record {
      walks = subst (λ (x : List Place). Walks m w.number [] (best_view w.seat) x w.closed) (sym same) c.requires.walks;
      flows = flow_same m (came_by w.number t job.thieves.items) (came_by w.number u c.find.new.thieves.items) (went_into t) (went_into u) held [] w.closed
          (λ h. let a = c.in-None.ensures.got h in omega (arith, a)) (λ h. ap (total h) f.owner.2)
          (subst (λ (x : List Place). Flows m (came_by w.number t job.thieves.items) (went_into t) [] x w.closed) (sym same) c.requires.flows);
      owner = f.owner.0;
      thieves = f.thieves;
    }
