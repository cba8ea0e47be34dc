use Rattle.std.proofs.Common.{◌≡◌, ◌<◌, ◌++◌, ℕ, List, [], ◌∷◌, Some, true, false, sym, subst, ap, ◌∙◌}
use Rattle.std.proofs.lemmas.Result.{on_ok_weaker}
use Rattle.choice_rank.specs.declared.variable.VarShape.{VarShape}
use Rattle.box_split.specs.Boxes.{IsBox, is_single, low_of}
use Rattle.box_split.specs.BoxIn.{box_in}
use Rattle.search_api.specs.declared.outcome.Closed.{Closed}
use Rattle.search_api.specs.Places.{IsAt, PushesHalves, paths_of, work_of}
use Rattle.search_api.proofs.PlaceLemmas.{place_closed_less, place_split_less}
use Rattle.serial_search.specs.Going.{Walks}
use Rattle.serial_search.proofs.WalkLemmas.{place_at, place_box, place_open, walks_cut, walks_bad, walks_leaf, walks_split}
use Rattle.serial_search.proofs.walk.turn.Given.{Over}
use Rattle.serial_search.proofs.walk.turn.Goals as goal
use Rattle.serial_search.proofs.walk.turn.Goals.{Start, After-low-low}

at_is : (g : Over) (c : Start g) → IsAt (g.J.Judge.meaning c.args.j.now).shape c.args.place
at_is g c =
    let w = c.args.walk.now in
    place_at (g.J.Judge.meaning c.args.j.now) (g.met.J.Judge.lawful c.args.j.now) w.pending.items c.args.place w.best w.kept w.closed c.requires.walks

box_is : (g : Over) (c : Start g) → IsBox (g.J.Judge.meaning c.args.j.now).shape (box_in (g.J.Judge.meaning c.args.j.now).shape c.args.place.b)
box_is g c =
    let w = c.args.walk.now in
    place_box (g.J.Judge.meaning c.args.j.now) (g.met.J.Judge.lawful c.args.j.now) w.pending.items c.args.place w.best w.kept w.closed c.requires.walks

low_is : (g : Over) (c : After-low-low g) → c.low-low.result ≡ low_of (g.J.Judge.meaning c.args.j.now).shape (box_in (g.J.Judge.meaning c.args.j.now).shape c.args.place.b)
low_is g c = c.low-low.ensures ∙ ap (λ (vs : List VarShape). low_of vs (box_in vs c.args.place.b)) c.shape-shape.ensures

-- what is left is less, where the place is closed
less : (g : Over) (c : Start g) → work_of (g.J.Judge.meaning c.args.j.now).shape (paths_of c.args.walk.now.pending.items) < work_of (g.J.Judge.meaning c.args.j.now).shape (paths_of (c.args.walk.now.pending.items ++ c.args.place ∷ []))
less g c = place_closed_less (g.J.Judge.meaning c.args.j.now).shape c.args.walk.now.pending.items c.args.place (g.met.J.Judge.lawful c.args.j.now).is_shape.positions (at_is g c)

pub low-low-requires : goal.low-low-requires
low-low-requires g c = subst (λ (vs : List VarShape). IsBox vs (box_in vs c.args.place.b)) (sym c.shape-shape.ensures) (box_is g (goal.at.low-low-requires g c).Start)

pub judge-requires-clause-is_box : goal.judge-requires-clause-is_box
judge-requires-clause-is_box g c = box_is g (goal.at.judge-requires-clause-is_box g c).Start

pub returns-in-Some-clause-less : goal.returns-in-Some-clause-less
returns-in-Some-clause-less g c = on_ok_weaker c.close.result (λ e. less g (goal.at.returns-in-Some-clause-less g c).Start) c.close.ensures

pub returns-in-Bad-clause-less : goal.returns-in-Bad-clause-less
returns-in-Bad-clause-less g c = on_ok_weaker c.close-in-Bad.result (λ e. less g (goal.at.returns-in-Bad-clause-less g c).Start) c.close-in-Bad.ensures

pub returns-in_ok-push-in-Legal-clause-less : goal.returns-in_ok-push-in-Legal-clause-less
returns-in_ok-push-in-Legal-clause-less g c = on_ok_weaker c.close-in-Legal.result (λ e. less g (goal.at.returns-in_ok-push-in-Legal-clause-less g c).Start) c.close-in-Legal.ensures

pub returns-in-Some-clause-walks : goal.returns-in-Some-clause-walks
returns-in-Some-clause-walks g c =
    let m = g.J.Judge.meaning c.args.j.now in
    let w = c.args.walk.now in
    let l = low_is g (goal.at.returns-in-Some-clause-walks g c).After-low-low in
    on_ok_weaker c.close.result (λ e.
    subst (λ (xs : List Closed). Walks m w.pending.items w.best w.kept xs) (sym e)
    (walks_cut m (g.met.J.Judge.lawful c.args.j.now) w.pending.items c.args.place w.best w.kept w.closed c.requires.walks c.low-low.result c.in-Some.rank l c.in-Some.ensures)) c.close.ensures

pub returns-in-Bad-clause-walks : goal.returns-in-Bad-clause-walks
returns-in-Bad-clause-walks g c =
    let m = g.J.Judge.meaning c.args.j.now in
    let w = c.args.walk.now in
    let l = low_is g (goal.at.returns-in-Bad-clause-walks g c).After-low-low in
    on_ok_weaker c.close-in-Bad.result (λ e.
    subst (λ (xs : List Closed). Walks m w.pending.items w.best w.kept xs) (sym e)
    (walks_bad m (g.met.J.Judge.lawful c.args.j.now) w.pending.items c.args.place w.best w.kept w.closed c.requires.walks c.low-low.result c.in-Bad.reason l (sym c.seen_below.ensures ∙ c.in_default.is) (sym c.in-Bad.ensures.verdict))) c.close-in-Bad.ensures

pub returns-in_ok-push-in-Legal-clause-walks : goal.returns-in_ok-push-in-Legal-clause-walks
returns-in_ok-push-in-Legal-clause-walks g c =
    let m = g.J.Judge.meaning c.args.j.now in
    let w = c.args.walk.now in
    let l = low_is g (goal.at.returns-in_ok-push-in-Legal-clause-walks g c).After-low-low in
    let low = c.low-low.result in
    on_ok_weaker c.close-in-Legal.result (λ e.
    subst (λ (ks : List ℕ). Walks m w.pending.items (Some low) ks c.close-in-Legal.new.closed) (sym c.in_ok-push-in-Legal.ensures.ok)
    (subst (λ (xs : List Closed). Walks m w.pending.items (Some low) (w.kept ++ low ∷ []) xs) (sym e)
    (walks_leaf m (g.met.J.Judge.lawful c.args.j.now) w.pending.items c.args.place w.best w.kept w.closed c.requires.walks low l (sym c.seen_below.ensures ∙ c.in_default.is) (sym c.in-Legal.ensures.verdict)))) c.close-in-Legal.ensures

pub unreachable-requires : goal.unreachable-requires
unreachable-requires g c =
    let m = g.J.Judge.meaning c.args.j.now in
    let w = c.args.walk.now in
    let two = place_open m (g.met.J.Judge.lawful c.args.j.now) w.pending.items c.args.place w.best w.kept w.closed c.requires.walks (sym c.in-Open.ensures.verdict) in
    let one : true ≡ is_single (box_in m.shape c.args.place.b) = c.in_default-split_at.ensures.single ∙ ap (λ (vs : List VarShape). is_single (box_in vs c.args.place.b)) c.shape-shape.ensures in
    let z : true ≡ false = one ∙ two in
    cc

pub push_halves-requires-clause-at : goal.push_halves-requires-clause-at
push_halves-requires-clause-at g c = subst (λ (vs : List VarShape). IsAt vs c.args.place) (sym c.shape-shape.ensures) (at_is g (goal.at.push_halves-requires-clause-at g c).Start)

pub returns-in-Some-split_at-clause-walks : goal.returns-in-Some-split_at-clause-walks
returns-in-Some-split_at-clause-walks g c =
    let m = g.J.Judge.meaning c.args.j.now in
    let w = c.args.walk.now in
    on_ok_weaker c.push_halves.result (λ h.
    walks_split m (g.met.J.Judge.lawful c.args.j.now) w.pending.items c.args.place w.best w.kept w.closed c.requires.walks c.push_halves.new.pending.items (sym c.in-Open.ensures.verdict)
    (subst (λ (vs : List VarShape). PushesHalves vs c.args.place w.pending.items c.push_halves.new.pending.items) c.shape-shape.ensures h)) c.push_halves.ensures

pub returns-in-Some-split_at-clause-less : goal.returns-in-Some-split_at-clause-less
returns-in-Some-split_at-clause-less g c =
    let m = g.J.Judge.meaning c.args.j.now in
    let w = c.args.walk.now in
    let two = place_open m (g.met.J.Judge.lawful c.args.j.now) w.pending.items c.args.place w.best w.kept w.closed c.requires.walks (sym c.in-Open.ensures.verdict) in
    on_ok_weaker c.push_halves.result (λ h.
    place_split_less m.shape c.args.place w.pending.items c.push_halves.new.pending.items (g.met.J.Judge.lawful c.args.j.now).is_shape.positions (at_is g (goal.at.returns-in-Some-split_at-clause-less g c).Start) two
    (subst (λ (vs : List VarShape). PushesHalves vs c.args.place w.pending.items c.push_halves.new.pending.items) c.shape-shape.ensures h)) c.push_halves.ensures
