use Rattle.std.proofs.Common.{[], ◌∷◌, ◌++◌, inl, refl, sym, ap, subst}
use Rattle.std.proofs.lemmas.Result.{IfOk-weaker}
use Rattle.best_word.specs.Handles.{best_view}
use Rattle.best_word.specs.Word.{kept_more}
use Rattle.box_split.specs.Paths.{lower}
use Rattle.box_split.specs.BoxIn.{box_in}
use Rattle.box_split.proofs.PathLemmas.{path_box, lower_path}
use Rattle.search_api.specs.declared.outcome.Cause.TheVariants as cause
use Rattle.search_api.specs.Accounts.{IsLegalRank}
use Rattle.steal_worker.specs.Walks.{held_places, in_hand}
use Rattle.steal_worker.proofs.FlowActs.{flow_close, flow_halve, flows_same}
use Rattle.steal_worker.proofs.LegalLemmas.{legal_rank}
use Rattle.steal_worker.proofs.WalkActs.{entry_of, room, walks_look, walks_cut, walks_close, walks_leaf, walks_halve, walks_same}
use Rattle.steal_worker.proofs.walker.settle.Goals as goal

pub returns-in-Some-clause-walks : goal.returns-in-Some-clause-walks
returns-in-Some-clause-walks g c =
    let m = g.J.Judge.meaning c.args.j.now in
    let w = c.args.walker.now in
    let p = c.args.place.now in
    let v = best_view c.look.new.seat in
    let box = box_in m.shape p.b in
    let at = c.requires.walks.hands.0.0 in
    let l = walks_look m w.number (p ∷ []) (best_view w.seat) v (held_places w.held) w.closed c.look.ensures.looked c.requires.walks in
    let fact = walks_cut m w.number p v (held_places w.held) w.closed box c.in-Some.rank at l.1 c.in-Some.ensures.cut.0 c.in-Some.ensures.cut.1 l.0 in
    IfOk-weaker c.close.result _ _ (λ more e. walks_same m w.number c.close.new.walker.number [] (in_hand more p) v (best_view c.close.new.walker.seat) (held_places w.held) (held_places c.close.new.walker.held) (w.closed ++ entry_of w.number p.path (cause.Cut c.in-Some.rank) ∷ []) c.close.new.walker.closed
    (ap (λ x. x.number) c.close.ensures.rest) (ap (λ b. in_hand b p) e.0) (ap (λ x. best_view x.seat) c.close.ensures.rest) (ap (λ x. held_places x.held) c.close.ensures.rest) e.1 fact) c.close.ensures.closed

pub returns-in-Some-clause-flows : goal.returns-in-Some-clause-flows
returns-in-Some-clause-flows g c =
    let m = g.J.Judge.meaning c.args.j.now in
    let w = c.args.walker.now in
    let p = c.args.place.now in
    IfOk-weaker c.close.result _ _ (λ more e. flows_same m (p ∷ []) (held_places w.held) [] (in_hand more p) (held_places w.held) (held_places c.close.new.walker.held) w.closed c.close.new.walker.closed
    (ap (λ b. in_hand b p) e.0) (ap (λ x. held_places x.held) c.close.ensures.rest) (flow_close m p (held_places w.held) w.closed c.close.new.walker.closed (entry_of w.number p.path (cause.Cut c.in-Some.rank)) refl e.1)) c.close.ensures.closed

pub returns-in-Bad-clause-walks : goal.returns-in-Bad-clause-walks
returns-in-Bad-clause-walks g c =
    let m = g.J.Judge.meaning c.args.j.now in
    let w = c.args.walker.now in
    let p = c.args.place.now in
    let v = best_view c.look.new.seat in
    let box = box_in m.shape p.b in
    let at = c.requires.walks.hands.0.0 in
    let l = walks_look m w.number (p ∷ []) (best_view w.seat) v (held_places w.held) w.closed c.look.ensures.looked c.requires.walks in
    let most = c.in_default.ensures.cut in
    let is_box = path_box m.shape p.path box (g.met.J.Judge.lawful c.args.j.now).is_shape.positions at in
    let why = sym c.in-Bad.ensures.verdict in
    let fact = walks_close m w.number p v (held_places w.held) w.closed box (cause.Bad c.in-Bad.reason) at l.1 refl ((g.met.J.Judge.lawful c.args.j.now).bad_refutes c.in-Bad.reason box is_box why, why) tt most l.0 in
    IfOk-weaker c.close-in-Bad.result _ _ (λ more e. walks_same m w.number c.close-in-Bad.new.walker.number [] (in_hand more p) v (best_view c.close-in-Bad.new.walker.seat) (held_places w.held) (held_places c.close-in-Bad.new.walker.held) (w.closed ++ entry_of w.number p.path (cause.Bad c.in-Bad.reason) ∷ []) c.close-in-Bad.new.walker.closed
    (ap (λ x. x.number) c.close-in-Bad.ensures.rest) (ap (λ b. in_hand b p) e.0) (ap (λ x. best_view x.seat) c.close-in-Bad.ensures.rest) (ap (λ x. held_places x.held) c.close-in-Bad.ensures.rest) e.1 fact) c.close-in-Bad.ensures.closed

pub returns-in-Bad-clause-flows : goal.returns-in-Bad-clause-flows
returns-in-Bad-clause-flows g c =
    let m = g.J.Judge.meaning c.args.j.now in
    let w = c.args.walker.now in
    let p = c.args.place.now in
    IfOk-weaker c.close-in-Bad.result _ _ (λ more e. flows_same m (p ∷ []) (held_places w.held) [] (in_hand more p) (held_places w.held) (held_places c.close-in-Bad.new.walker.held) w.closed c.close-in-Bad.new.walker.closed
    (ap (λ b. in_hand b p) e.0) (ap (λ x. held_places x.held) c.close-in-Bad.ensures.rest) (flow_close m p (held_places w.held) w.closed c.close-in-Bad.new.walker.closed (entry_of w.number p.path (cause.Bad c.in-Bad.reason)) refl e.1)) c.close-in-Bad.ensures.closed

pub returns-in-Legal-clause-walks : goal.returns-in-Legal-clause-walks
returns-in-Legal-clause-walks g c =
    let m = g.J.Judge.meaning c.args.j.now in
    let w = c.args.walker.now in
    let p = c.args.place.now in
    let v = best_view c.look.new.seat in
    let box = box_in m.shape p.b in
    let at = c.requires.walks.hands.0.0 in
    let l = walks_look m w.number (p ∷ []) (best_view w.seat) v (held_places w.held) w.closed c.look.ensures.looked c.requires.walks in
    let most = c.in_default.ensures.cut in
    let is_box = path_box m.shape p.path box (g.met.J.Judge.lawful c.args.j.now).is_shape.positions at in
    let low = c.place_low-low.result in
    let law = g.met.J.Judge.lawful c.args.j.now in
    let why = sym c.in-Legal.ensures.verdict in
    let one = law.legal_is_one box is_box why in
    let fact = walks_leaf m w.number p v (held_places w.held) w.closed box low at l.1 (legal_rank m law box is_box why low c.place_low-low.ensures) (one.0, sym c.place_low-low.ensures, inl refl) most l.0 in
    IfOk-weaker c.keep.result _ _ (λ more e. walks_same m w.number c.keep.new.walker.number [] (in_hand more p) (kept_more v low) (best_view c.keep.new.walker.seat) (held_places w.held) (held_places c.keep.new.walker.held) (w.closed ++ entry_of w.number p.path (cause.Leaf c.place_low-low.result) ∷ []) c.keep.new.walker.closed
    (ap (λ x. x.number) c.keep.ensures.rest) (ap (λ b. in_hand b p) e.0) e.2 (ap (λ x. held_places x.held) c.keep.ensures.rest) e.1 fact) c.keep.ensures.closed

pub returns-in-Legal-clause-flows : goal.returns-in-Legal-clause-flows
returns-in-Legal-clause-flows g c =
    let m = g.J.Judge.meaning c.args.j.now in
    let w = c.args.walker.now in
    let p = c.args.place.now in
    IfOk-weaker c.keep.result _ _ (λ more e. flows_same m (p ∷ []) (held_places w.held) [] (in_hand more p) (held_places w.held) (held_places c.keep.new.walker.held) w.closed c.keep.new.walker.closed
    (ap (λ b. in_hand b p) e.0) (ap (λ x. held_places x.held) c.keep.ensures.rest) (flow_close m p (held_places w.held) w.closed c.keep.new.walker.closed (entry_of w.number p.path (cause.Leaf c.place_low-low.result)) refl e.1)) c.keep.ensures.closed

pub keep-requires-clause-legal : goal.keep-requires-clause-legal
keep-requires-clause-legal g c κs within =
    let m = g.J.Judge.meaning c.args.j.now in
    let p = c.args.place.now in
    let box = box_in m.shape p.b in
    let law = g.met.J.Judge.lawful c.args.j.now in
    let is_box = path_box m.shape p.path box law.is_shape.positions c.requires.walks.hands.0.0 in
    subst (λ x. IsLegalRank (g.J.Judge.meaning x) c.place_low-low.result) (sym c.requires.word.0) (legal_rank m law box is_box (sym c.in-Legal.ensures.verdict) c.place_low-low.result c.place_low-low.ensures)

pub halve-requires-clause-open : goal.halve-requires-clause-open
halve-requires-clause-open g c κs within =
    let m = g.J.Judge.meaning c.args.j.now in
    let p = c.args.place.now in
    let law = g.met.J.Judge.lawful c.args.j.now in
    law.open_has_two (box_in m.shape p.b) (path_box m.shape p.path (box_in m.shape p.b) law.is_shape.positions c.requires.walks.hands.0.0) (sym c.in-Open.ensures.verdict)

pub halve-requires-clause-room : goal.halve-requires-clause-room
halve-requires-clause-room g c κs within =
    let m = g.J.Judge.meaning c.args.j.now in
    let p = c.args.place.now in
    let box = box_in m.shape p.b in
    let at = c.requires.walks.hands.0.0 in
    let law = g.met.J.Judge.lawful c.args.j.now in
    let two = law.open_has_two box (path_box m.shape p.path box law.is_shape.positions at) (sym c.in-Open.ensures.verdict) in
    room m.shape law.is_shape p.path (lower box) (held_places c.args.walker.now.held) (lower_path m.shape p.path box at two) c.requires.walks.hands.0.1

pub returns-in-Open-clause-walks : goal.returns-in-Open-clause-walks
returns-in-Open-clause-walks g c =
    let m = g.J.Judge.meaning c.args.j.now in
    let w = c.args.walker.now in
    let p = c.args.place.now in
    let v = best_view c.look.new.seat in
    let box = box_in m.shape p.b in
    let at = c.requires.walks.hands.0.0 in
    let l = walks_look m w.number (p ∷ []) (best_view w.seat) v (held_places w.held) w.closed c.look.ensures.looked c.requires.walks in
    walks_halve m w.number p c.halve.new.place v (held_places w.held) (held_places c.halve.new.held) w.closed c.halve.ensures l.0

pub returns-in-Open-clause-flows : goal.returns-in-Open-clause-flows
returns-in-Open-clause-flows g c =
    let m = g.J.Judge.meaning c.args.j.now in
    let w = c.args.walker.now in
    let p = c.args.place.now in
    let box = box_in m.shape p.b in
    let at = c.requires.walks.hands.0.0 in
    let law = g.met.J.Judge.lawful c.args.j.now in
    let wide = sym c.in-Open.ensures.verdict in
    flow_halve m p c.halve.new.place box (held_places w.held) (held_places c.halve.new.held) w.closed at (law.open_has_two box (path_box m.shape p.path box law.is_shape.positions at) wide) wide c.halve.ensures
