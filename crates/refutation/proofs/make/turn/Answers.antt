use Rattle.std.proofs.Common.{◌≡◌, List, Option, sym, ap, subst, ◌∙◌}
use Rattle.std.proofs.lemmas.Result.{on_ok_weaker}
use Rattle.box_split.specs.BoxIn.{box_in}
use Rattle.box_split.proofs.PathLemmas.{path_box}
use Rattle.search_api.specs.declared.outcome.Cause.{Cause}
use Rattle.search_api.specs.Places.{IsAt}
use Rattle.search_api.proofs.PlaceLemmas.{split_open, place_closed_less, place_split_less}
use Rattle.refutation.specs.declared.node.Node.{Node}
use Rattle.refutation.specs.declared.node.Node.TheVariants as node
use Rattle.refutation.specs.Outcomes.{cause_at}
use Rattle.refutation.specs.Making.{node_of, Placed}
use Rattle.refutation.proofs.PlaceLemmas.{place_at, placed_leaf, placed_split, split_is}
use Rattle.refutation.proofs.make.turn.Goals as goal
use Rattle.refutation.proofs.make.turn.Goals.{Start, After-node_of-node}

at_is : (c : Start) → IsAt c.args.s.now c.args.place
at_is c = place_at c.args.s.now c.args.o.now.best c.args.o.now.closed c.args.making.now.pending.items c.args.place c.args.making.now.nodes node.Rank c.requires.placed

pub node_of-node-requires : goal.node_of-node-requires
node_of-node-requires c = path_box c.args.s.now c.args.place.path _ c.vars-vars.ensures.shape.positions (at_is (goal.at.node_of-node-requires c).Start)

pub push_halves-requires-clause-at : goal.push_halves-requires-clause-at
push_halves-requires-clause-at c = at_is (goal.at.push_halves-requires-clause-at c).Start

node_is : (c : After-node_of-node) → c.node_of-node.result ≡ node_of c.args.s.now c.args.o.now.best (cause_at c.args.o.now.closed c.args.place.path) (box_in c.args.s.now c.args.place.b)
node_is c =
    let found : c.copied.result ≡ cause_at c.args.o.now.closed c.args.place.path = cc (c.get.ensures.value, c.copied.ensures, c.requires.finds c.args.place.path) in
    c.node_of-node.ensures ∙ ap (λ (f : Option Cause). node_of c.args.s.now c.args.o.now.best f (box_in c.args.s.now c.args.place.b)) found

pub returns-in_default : goal.returns-in_default
returns-in_default c =
    let vs = c.args.s.now in
    let best = c.args.o.now.best in
    let closed = c.args.o.now.closed in
    let es = c.args.making.now.pending.items in
    let n = node_is (goal.at.returns-in_default c).After-node_of-node in
    record {
      placed = subst (λ (ns : List Node). Placed vs best closed es ns) (sym c.in_ok-push.ensures.ok)
          (placed_leaf vs best closed es c.args.place c.args.making.now.nodes c.node_of-node.result c.requires.placed n c.in_default.not-Split);
      less = place_closed_less vs es c.args.place c.vars-vars.ensures.shape.positions (at_is (goal.at.returns-in_default c).Start);
    }

pub returns-in-Split-clause-placed : goal.returns-in-Split-clause-placed
returns-in-Split-clause-placed c =
    let vs = c.args.s.now in
    let best = c.args.o.now.best in
    let closed = c.args.o.now.closed in
    let es = c.args.making.now.pending.items in
    let n = node_is (goal.at.returns-in-Split-clause-placed c).After-node_of-node in
    on_ok_weaker c.push_halves.result (λ h.
    subst (λ (ns : List Node). Placed vs best closed c.push_halves.new.pending.items ns) (sym c.in_ok-push.ensures.ok)
    (placed_split vs best closed es c.args.place c.args.making.now.nodes c.node_of-node.result c.requires.placed n c.push_halves.new.pending.items c.in-Split.variable c.in-Split.after c.in-Split.is h)) c.push_halves.ensures

pub returns-in-Split-clause-less : goal.returns-in-Split-clause-less
returns-in-Split-clause-less c =
    let vs = c.args.s.now in
    let es = c.args.making.now.pending.items in
    let n = node_is (goal.at.returns-in-Split-clause-less c).After-node_of-node in
    let s = split_is vs c.args.o.now.best c.args.o.now.closed es c.args.place c.args.making.now.nodes c.node_of-node.result c.requires.placed n c.in-Split.variable c.in-Split.after c.in-Split.is in
    on_ok_weaker c.push_halves.result (λ h.
    place_split_less vs c.args.place es c.push_halves.new.pending.items c.vars-vars.ensures.shape.positions (at_is (goal.at.returns-in-Split-clause-less c).Start)
    (split_open (box_in vs c.args.place.b) c.in-Split.variable c.in-Split.after s) h) c.push_halves.ensures
