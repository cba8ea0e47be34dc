-- A tree under way, with the box of each path beside it.
use Rattle.std.proofs.Common.{◌≡◌, ℕ, ◌+◌, ◌*◌, List, [], ◌∷◌, ◌++◌, Option, Some, sym, subst, ◌∙◌}
use Rattle.choice_rank.specs.declared.variable.VarShape.{VarShape}
use Rattle.box_split.specs.Paths.{split_from}
use Rattle.box_split.specs.BoxIn.{box_in}
use Rattle.search_api.specs.declared.outcome.Closed.{Closed}
use Rattle.search_api.specs.declared.place.Place.{Place}
use Rattle.search_api.specs.Places.{IsAt, PushesHalves, paths_of}
use Rattle.search_api.proofs.PlaceLemmas.{paths_push, paths_halves, split_open, at_last, at_rest, at_halves}
use Rattle.refutation.specs.declared.node.Node.{Node}
use Rattle.refutation.specs.declared.node.Node.TheVariants as node
use Rattle.refutation.specs.Outcomes.{cause_at}
use Rattle.refutation.specs.Making.{node_of, node_at, UnderWay, Placed}
use Rattle.refutation.proofs.WayLemmas.{at_node, split_read, way_leaf, way_split, way_first}

module _ (vs : List VarShape) (best : Option ℕ) (closed : List Closed) (es : List Place) (e : Place) (nodes : List Node) (n : Node) (p : Placed vs best closed (es ++ e ∷ []) nodes) where
  pub place_at : IsAt vs e
  place_at = at_last vs es e p.at

  before : UnderWay vs best closed (paths_of es ++ e.path ∷ []) nodes
  before = subst (λ ps. UnderWay vs best closed ps nodes) (paths_push es e) p.way

  module _ (is : n ≡ node_of vs best (cause_at closed e.path) (box_in vs e.b)) where
    node_is : node_at vs best closed e.path ≡ n
    node_is = at_node vs best closed e.path (box_in vs e.b) place_at ∙ sym is

    pub placed_leaf : ((v k : ℕ) → n ≡ node.Split v k → ⊥) → Placed vs best closed es (nodes ++ n ∷ [])
    placed_leaf leaf = record {
      at = at_rest vs es e p.at;
      way = way_leaf vs best closed (paths_of es) nodes e.path n before node_is leaf;
    }

    -- what a written split says of the box
    pub split_is : (v k : ℕ) → n ≡ node.Split v k → split_from 0 (box_in vs e.b) ≡ Some (v, k)
    split_is v k s = split_read vs best (cause_at closed e.path) (box_in vs e.b) v k (sym is ∙ s)

    pub placed_split : (new : List Place) (v k : ℕ) → n ≡ node.Split v k → PushesHalves vs e es new → Placed vs best closed new (nodes ++ n ∷ [])
    placed_split new v k s h =
        let two = split_open (box_in vs e.b) v k (split_is v k s) in
        record {
          at = at_halves vs e es new h (at_rest vs es e p.at);
          way = subst (λ ps. UnderWay vs best closed ps (nodes ++ n ∷ [])) (sym (paths_halves vs e es new h))
              (subst (λ x. UnderWay vs best closed ((paths_of es ++ (2 * e.path + 1) ∷ []) ++ (2 * e.path) ∷ []) (nodes ++ x ∷ [])) (sym s)
              (way_split vs best closed (paths_of es) nodes e.path v k (box_in vs e.b) before place_at two (node_is ∙ s)));
        }

pub placed_first : (vs : List VarShape) (best : Option ℕ) (closed : List Closed) (e : Place) → e.path ≡ 1 → IsAt vs e → Placed vs best closed (e ∷ []) []
placed_first vs best closed e one at = record { at = (at, tt); way = subst (λ p. UnderWay vs best closed (p ∷ []) []) (sym one) (way_first vs best closed) }
