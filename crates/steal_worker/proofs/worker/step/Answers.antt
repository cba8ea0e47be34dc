use Rattle.std.proofs.Common.{◌≡◌, ◌+◌, [], ◌∷◌, ap, ◌∙◌, subst, arith}
use Rattle.res_base.specs.Lists.{total}
use Rattle.res_base.proofs.ListLemmas.{total_append}
use Rattle.best_word.specs.Handles.{best_view}
use Rattle.path_deque.specs.declared.deque.Tally.{Tally}
use Rattle.path_deque.specs.Ends.{owner_tally}
use Rattle.search_api.specs.Places.{paths_of}
use Rattle.steal_worker.specs.Flows.{FlowsOn}
use Rattle.steal_worker.specs.Jobs.{came_by, went_into, given}
use Rattle.steal_worker.specs.Walks.{Walks, held_places, in_hand}
use Rattle.steal_worker.proofs.FlowActs.{flow_share, paths_weight}
use Rattle.steal_worker.proofs.WalkActs.{walks_share}
use Rattle.steal_worker.proofs.worker.step.Goals as goal

pub returns-in-Ok-true-clause-works : goal.returns-in-Ok-true-clause-works
returns-in-Ok-true-clause-works g c =
    let m = g.J.Judge.meaning c.args.j.now in
    let job = c.args.job.now in
    let w = c.settle.new.walker in
    let p = c.settle.new.place in
    let old = held_places w.held in
    let new = held_places c.share.new.held in
    let t : Tally = owner_tally job.owner in
    let u : Tally = owner_tally c.share.new.owner in
    let s = c.share.ensures.moved in
    let came = came_by job.walker.number t job.thieves.items in
    let went = went_into t in
    let walks : Walks m w.number (p ∷ []) (best_view w.seat) old w.closed = subst (λ o. Walks m w.number (in_hand o p) (best_view w.seat) old w.closed) c.in-Ok-true.field-0-test c.in-Ok-true.ensures.walks in
    let on : FlowsOn m (c.args.place.now ∷ []) (held_places job.walker.held) job.walker.closed (p ∷ []) old w.closed = subst (λ o. FlowsOn m (c.args.place.now ∷ []) (held_places job.walker.held) job.walker.closed (in_hand o p) old w.closed) c.in-Ok-true.field-0-test c.in-Ok-true.ensures.flows in
    record {
      walks = walks_share m w.number (p ∷ []) s.0 (best_view w.seat) old new w.closed s.1 walks;
      flows = flow_share m came (came_by w.number u job.thieves.items) went (went_into u) (p ∷ []) s.0 old new w.closed s.1
          (λ h.
          let a : total h u.got ≡ total h t.got = ap (λ (x : Tally). total h x.got) s.2 in
          let b : total h (given w.number) ≡ total h (given job.walker.number) = ap (λ n. total h (given n)) c.in-Ok-true.ensures.number in
          omega (arith, a, b))
          (λ h. ap (λ (x : Tally). total h x.put) s.2 ∙ (total_append h t.put (paths_of s.0) ∙ ap (λ n. total h t.put + n) (paths_weight h s.0)))
          (on came went c.requires.works.flows);
      owner = ap (λ (x : Tally). x.part) s.2 ∙ c.requires.works.owner;
      thieves = c.requires.works.thieves;
    }
