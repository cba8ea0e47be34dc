use Rattle.std.proofs.Common.{◌+◌, [], ◌∷◌, List, refl, sym, ap, subst}
use Rattle.std.proofs.lemmas.Result.{on_ok_weaker}
use Rattle.box_split.specs.BoxIn.{box_in}
use Rattle.box_split.proofs.RunLemmas.{positive}
use Rattle.best_word.specs.Handles.{best_view}
use Rattle.search_api.specs.declared.place.Place.{Place}
use Rattle.steal_worker.specs.Flows.{FlowsOn}
use Rattle.steal_worker.specs.Walks.{Walks}
use Rattle.steal_worker.proofs.FlowActs.{flow_take, flow_lose}
use Rattle.steal_worker.proofs.WalkActs.{walks_take}
use Rattle.steal_pool.proofs.rest.close_path.Goals as goal

pub close_below-requires-clause-walks : goal.close_below-requires-clause-walks
close_below-requires-clause-walks g c κs within =
    let m = g.J.Judge.meaning c.args.j.now in
    let w = c.args.walker.now in
    let p = c.in-Some.place in
    let at = c.in-Some.ensures.1 in
    subst (λ (h : List Place). Walks m w.number (p ∷ []) (best_view w.seat) h w.closed) (sym c.requires.none_held)
    (walks_take m w.number p (best_view w.seat) [] w.closed refl at (positive m.shape p.path (box_in m.shape p.b) at) c.requires.walks)

pub returns-in-Some-clause-flows : goal.returns-in-Some-clause-flows
returns-in-Some-clause-flows g c =
    let m = g.J.Judge.meaning c.args.j.now in
    let w = c.args.walker.now in
    let p = c.in-Some.place in
    on_ok_weaker c.close_below.result (λ on came went f.
    let on' : FlowsOn m (p ∷ []) [] w.closed [] [] c.close_below.new.walker.closed = subst (λ (h : List Place). FlowsOn m (p ∷ []) h w.closed [] [] c.close_below.new.walker.closed) c.requires.none_held on in
    on' (λ h. came h + h c.args.path) went (flow_take m came (λ h. came h + h c.args.path) went went p [] w.closed (λ h. ap (λ x. came h + h x) (sym c.in-Some.ensures.0)) (λ h. refl) f)) c.close_below.ensures.flows

pub returns-in-None-clause-flows : goal.returns-in-None-clause-flows
returns-in-None-clause-flows g c = λ came went f.
    flow_lose (g.J.Judge.meaning c.args.j.now) came (λ h. came h + h c.args.path) went went c.args.path [] c.args.walker.now.closed c.in-None.ensures (λ h. refl) (λ h. refl) f
