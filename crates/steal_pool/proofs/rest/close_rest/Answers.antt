use Rattle.std.proofs.Common.{◌≡◌, ℕ, ◌+◌, [], ◌∷◌, List, refl, sym, ap, ◌∙◌, subst, arith}
use Rattle.res_base.specs.Lists.{Each, total}
use Rattle.res_base.proofs.ListLemmas.{total_snoc}
use Rattle.best_word.specs.declared.word.View.{View}
use Rattle.best_word.specs.Handles.{best_view}
use Rattle.best_word.specs.Word.{one_more_out, together}
use Rattle.search_api.specs.declared.outcome.Closed.{Closed}
use Rattle.steal_worker.specs.Flows.{Flows}
use Rattle.steal_worker.specs.Walks.{AreClosed}
use Rattle.steal_worker.proofs.FlowActs.{flow_same}
use Rattle.steal_pool.proofs.CrewLemmas.{fresh_walks}
use Rattle.steal_pool.proofs.RowLemmas.{no_items}
use Rattle.steal_pool.proofs.rest.close_rest.Goals as goal

pub loop-path-init : goal.loop-path-init
loop-path-init g c =
    let m = g.J.Judge.meaning c.args.j.now in
    let w = c.in_ok-walker.ensures.made in
    let k = c.in_ok-walker.walker in
    record {
      seat = c.new.ensures.seat;
      view = refl;
      own = w.seat;
      fits = w.fits;
      number = w.number;
      none_held = w.held;
      walks = fresh_walks m k.number (best_view k.seat) [] k.closed w.view refl w.closed;
      taken = [];
      all = λ h. omega arith;
      flows = subst (λ (x : List Closed). Flows m (λ h. 0) (λ h. 0) [] [] x) (sym w.closed)
          (record { balance = λ choice. refl; sourced = λ h g hh hg one none. record { went_on = refl; in_hand = refl; in_held = refl; halves_held = refl; in_closed = refl } });
    }

pub loop-path-preserved : goal.loop-path-preserved
loop-path-preserved g c =
    let m = g.J.Judge.meaning c.args.j.now in
    let i = c.loop-path.invariant in
    let o = c.in_ok-close_path.ensures in
    let x = c.in-Some.path in
    let new = c.close_path.new.walker in
    record {
      seat = i.seat;
      view = i.view;
      own = o.word;
      fits = o.fits;
      number = o.number ∙ i.number;
      none_held = o.none_held;
      walks = o.walks;
      taken = x ∷ i.taken;
      all = λ h.
          let a : total h c.loop-path.left.items ≡ total h c.pop.new.self.items + h x = ap (total h) c.in-Some.ensures.items ∙ total_snoc h c.pop.new.self.items x in
          let b = i.all h in omega (arith, a, b);
      flows = flow_same m (λ h. total h i.taken + h x) (λ h. total h (x ∷ i.taken)) (λ h. 0) (λ h. 0) [] [] new.closed (λ h. omega arith) (λ h. refl) (o.flows (λ h. total h i.taken) (λ h. 0) i.flows);
    }

pub returns-clause-worked : goal.returns-clause-worked
returns-clause-worked g c =
    let m = g.J.Judge.meaning c.args.j.now in
    let i = c.loop-path.invariant in
    let w = c.loop-path.walker in
    let none = no_items c.loop-path.left.items (let k = c.in_default.ensures.cases in omega arith) in
    let all : (h : ℕ → ℕ) → total h c.args.left.items ≡ total h i.taken = λ h. let a = i.all h in let b : total h c.loop-path.left.items ≡ 0 = ap (total h) none in omega (arith, a, b) in
    let mine = c.parts-own.ensures in
    let closed : c.parts-own.result.1 ≡ w.closed = ap (λ r. r.1) mine in
    record {
      own = best_view w.seat;
      joined = c.join.ensures.view ∙ (ap (λ (x : View g.row.J.Denot). together x (best_view c.parts-own.result.0)) (i.view ∙ c.in_ok-walker.ensures.view) ∙ ap (λ s. together (one_more_out (best_view c.args.seat.now)) (best_view s)) (ap (λ r. r.0) mine));
      boxes = subst (AreClosed m (best_view w.seat)) (sym closed) i.walks.boxes;
      numbers = subst (Each (λ (e : Closed). e.worker ≡ c.args.number)) (sym closed) (subst (λ k. Each (λ (e : Closed). e.worker ≡ k) w.closed) i.number i.walks.named);
      flows = subst (Flows m (λ h. total h c.args.left.items) (λ h. 0) [] []) (sym closed) (flow_same m (λ h. total h i.taken) (λ h. total h c.args.left.items) (λ h. 0) (λ h. 0) [] [] w.closed all (λ h. refl) i.flows);
    }
