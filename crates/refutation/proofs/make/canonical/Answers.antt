use Rattle.std.proofs.Common.{List, sym, subst, arith}
use Rattle.std.proofs.lemmas.List.{nil_from_length}
use Rattle.choice_rank.specs.declared.variable.VarShape.{VarShape}
use Rattle.choice_rank.specs.Choices.{HasPositions}
use Rattle.box_split.specs.Boxes.{whole}
use Rattle.box_split.proofs.RunLemmas.{box_root}
use Rattle.search_api.specs.declared.place.Place.{Place}
use Rattle.search_api.specs.Places.{paths_of}
use Rattle.refutation.specs.Outcomes.{IsCovered}
use Rattle.refutation.specs.Canonical.{IsMadeOf}
use Rattle.refutation.specs.Making.{UnderWay}
use Rattle.refutation.proofs.WayLemmas.{way_done}
use Rattle.refutation.proofs.MadeLemmas.{none_root, made}
use Rattle.refutation.proofs.AcceptLemmas.{accepted}
use Rattle.refutation.proofs.CanonLemmas.{canonical}
use Rattle.refutation.proofs.make.canonical.Goals as goal
use Rattle.refutation.proofs.make.canonical.Goals.{After-drop-causes-2}

-- the tree of the outcome
made_is : (c : After-drop-causes-2) → IsMadeOf c.args.s.now c.args.o.now.best c.args.o.now.closed c.loop-place.making.nodes
made_is c =
    let vs = c.args.s.now in
    let best = c.args.o.now.best in
    let kept = c.args.o.now.kept in
    let closed = c.args.o.now.closed in
    let w = c.loop-place.making in
    let positions = c.vars-vars.ensures.shape.positions in
    let nil = nil_from_length w.pending.items (omega (arith, c.in_default.ensures.cases, w.pending.ok.0)) in
    let d = way_done vs best closed w.nodes (subst (λ (es : List Place). UnderWay vs best closed (paths_of es) w.nodes) nil c.loop-place.invariant.way) in
    record {
      tree = d.tree;
      nodes_are = d.nodes_are;
      made = made vs best kept closed positions c.requires.covered d.tree 1 (whole vs) (box_root vs) (none_root vs best kept closed positions c.requires.covered) d.built;
    }

pub returns-clause-made : goal.returns-clause-made
returns-clause-made c = made_is (goal.at.returns-clause-made c).After-drop-causes-2

pub returns-clause-accepted : goal.returns-clause-accepted
returns-clause-accepted c = λ m e lawful sound.
    let best = c.args.o.now.best in
    let kept = c.args.o.now.kept in
    let closed = c.args.o.now.closed in
    let nodes = c.loop-place.making.nodes in
    let positions = subst (λ (vs : List VarShape). HasPositions vs) (sym e) c.vars-vars.ensures.shape.positions in
    let covered = subst (λ (vs : List VarShape). IsCovered vs best kept closed) (sym e) c.requires.covered in
    let own = subst (λ (vs : List VarShape). IsMadeOf vs best closed nodes) (sym e) (made_is (goal.at.returns-clause-accepted c).After-drop-causes-2) in
    accepted m lawful best kept closed positions covered sound nodes own.tree own.nodes_are own.made

pub returns-clause-canonical : goal.returns-clause-canonical
returns-clause-canonical c = λ m e lawful sound owned.
    let best = c.args.o.now.best in
    let kept = c.args.o.now.kept in
    let closed = c.args.o.now.closed in
    let nodes = c.loop-place.making.nodes in
    let positions = subst (λ (vs : List VarShape). HasPositions vs) (sym e) c.vars-vars.ensures.shape.positions in
    let covered = subst (λ (vs : List VarShape). IsCovered vs best kept closed) (sym e) c.requires.covered in
    let own = subst (λ (vs : List VarShape). IsMadeOf vs best closed nodes) (sym e) (made_is (goal.at.returns-clause-canonical c).After-drop-causes-2) in
    canonical m lawful best kept closed positions covered sound owned nodes own.tree own.nodes_are own.made
