-- A tree under way, a path at a time.
use Rattle.std.proofs.Common.{◌≡◌, ℕ, ◌+◌, ◌*◌, List, [], ◌∷◌, ◌++◌, Bool, true, false, cond, Option, Some, None, refl, sym, ap, subst, ◌∙◌, append_assoc}
use Rattle.std.specs.Prelude.{reverse, IsSome}
use Rattle.std.specs.Option.{option_map_or}
use Rattle.std.proofs.lemmas.List.{reverse-append}
use Rattle.choice_rank.specs.declared.variable.VarShape.{VarShape}
use Rattle.box_split.specs.Boxes.{Run, whole, is_single, low_of}
use Rattle.box_split.specs.Paths.{box_of, lower, upper, split_from}
use Rattle.box_split.proofs.RunLemmas.{box_root}
use Rattle.search_api.specs.declared.outcome.Cause.{Cause}
use Rattle.search_api.specs.declared.outcome.Cause.TheVariants as cause
use Rattle.search_api.specs.declared.outcome.Closed.{Closed}
use Rattle.res_base.proofs.ListLemmas.{each_push, each_prefix}
use Rattle.box_split.proofs.PathLemmas.{lower_path, upper_path}
use Rattle.refutation.specs.declared.node.Node.{Node}
use Rattle.refutation.specs.declared.node.Node.TheVariants as node
use Rattle.refutation.specs.Outcomes.{is_below, cause_at}
use Rattle.refutation.specs.Trees.{Tree, BadLeaf, RankLeaf, WitnessLeaf, Fork, nodes_of}
use Rattle.refutation.specs.Making.{node_from, node_by, node_for, node_of, node_at, IsBuilt, Builds, UnderWay}

from_split : (o : Option (ℕ × ℕ)) (v k : ℕ) → node_from o ≡ node.Split v k → o ≡ Some (v, k)
from_split None v k h = let e : node.Rank ≡ node.Split v k = h in cc
from_split (Some s) v k h =
    let e : node.Split s.0 s.1 ≡ node.Split v k = h in
    let e0 : s.0 ≡ v = cc in
    let e1 : s.1 ≡ k = cc in
    ap (λ x. Some (x, s.1)) e0 ∙ ap (λ y. Some (v, y)) e1

by_split : (c : Cause) (v k : ℕ) → node_by c ≡ node.Split v k → ⊥
by_split (cause.Bad reason) v k h = let e : node.Bad reason ≡ node.Split v k = h in cc
by_split (cause.Cut rank) v k h = let e : node.Rank ≡ node.Split v k = h in cc
by_split (cause.Leaf rank) v k h = let e : node.Witness ≡ node.Split v k = h in cc

-- a split is written only where the box has two choices
pub split_read : (vs : List VarShape) (best : Option ℕ) (found : Option Cause) (box : List Run) (v k : ℕ) → node_of vs best found box ≡ node.Split v k → split_from 0 box ≡ Some (v, k)
split_read vs best found box v k h = below (is_below best (low_of vs box)) found h
  where
    below : (b : Bool) (f : Option Cause) → cond b node.Rank (node_for f box) ≡ node.Split v k → split_from 0 box ≡ Some (v, k)
    below true f h = let e : node.Rank ≡ node.Split v k = h in cc
    below false None h = from_split (split_from 0 box) v k h
    below false (Some c) h = absurd (by_split c v k h)

module _ (vs : List VarShape) (best : Option ℕ) (closed : List Closed) where
  pub at_node : (p : ℕ) (box : List Run) → box_of vs p ≡ Some box → node_at vs best closed p ≡ node_of vs best (cause_at closed p) box
  at_node p box e = ap (λ (o : Option (List Run)). option_map_or (node_of vs best (cause_at closed p)) o node.Rank) e

  leaf_on : (n : Node) (ns : List Node) (p : ℕ) (ps : List ℕ) → node_at vs best closed p ≡ n → ((v k : ℕ) → n ≡ node.Split v k → ⊥) → Builds vs best closed ps ns → Builds vs best closed (p ∷ ps) (n ∷ ns)
  leaf_on (node.Bad reason) ns p ps h leaf t = (BadLeaf reason, ns, refl, h, t)
  leaf_on node.Rank ns p ps h leaf t = (RankLeaf, ns, refl, h, t)
  leaf_on node.Witness ns p ps h leaf t = (WitnessLeaf, ns, refl, h, t)
  leaf_on (node.Split v k) ns p ps h leaf t = absurd (leaf v k refl)

  split_on : (v k : ℕ) (ns : List Node) (p : ℕ) (ps : List ℕ) → node_at vs best closed p ≡ node.Split v k → Builds vs best closed ((2 * p) ∷ (2 * p + 1) ∷ ps) ns → Builds vs best closed (p ∷ ps) (node.Split v k ∷ ns)
  split_on v k ns p ps h t =
      let r = t.4 in (
        Fork v k t.0 r.0,
        r.1,
        ap (λ xs. node.Split v k ∷ xs) (t.2 ∙ ap (λ xs. nodes_of t.0 ++ xs) r.2 ∙ sym (append_assoc (nodes_of t.0) (nodes_of r.0) r.1)),
        (h, t.3, r.3),
        r.4,
      )

  pub way_leaf : (pending : List ℕ) (nodes : List Node) (path : ℕ) (n : Node) → UnderWay vs best closed (pending ++ path ∷ []) nodes → node_at vs best closed path ≡ n → ((v k : ℕ) → n ≡ node.Split v k → ⊥) → UnderWay vs best closed pending (nodes ++ n ∷ [])
  way_leaf pending nodes path n w h leaf = record {
    paths = (each_prefix (λ p. IsSome (box_of vs p)) pending path w.paths).0;
    leads = λ rest b.
        let s = w.leads (n ∷ rest) (subst (λ ps. Builds vs best closed ps (n ∷ rest)) (sym (reverse-append pending (path ∷ []))) (leaf_on n rest path (reverse pending) h leaf b)) in
        subst (λ xs. Builds vs best closed (1 ∷ []) xs) (sym (append_assoc nodes (n ∷ []) rest)) s;
  }

  is_path : (p : ℕ) (box : List Run) → box_of vs p ≡ Some box → IsSome (box_of vs p)
  is_path p box e = subst (λ (o : Option (List Run)). IsSome o) (sym e) refl

  pub way_split : (pending : List ℕ) (nodes : List Node) (path v k : ℕ) (box : List Run) → UnderWay vs best closed (pending ++ path ∷ []) nodes → box_of vs path ≡ Some box → is_single box ≡ false → node_at vs best closed path ≡ node.Split v k → UnderWay vs best closed ((pending ++ (2 * path + 1) ∷ []) ++ (2 * path) ∷ []) (nodes ++ node.Split v k ∷ [])
  way_split pending nodes path v k box w e s h =
      let P : ℕ → Type 0 = λ p. IsSome (box_of vs p) in
      let ps = (each_prefix P pending path w.paths).0 in
      let turned : reverse ((pending ++ (2 * path + 1) ∷ []) ++ (2 * path) ∷ []) ≡ (2 * path) ∷ (2 * path + 1) ∷ reverse pending =
      reverse-append (pending ++ (2 * path + 1) ∷ []) ((2 * path) ∷ []) ∙ ap (λ xs. (2 * path) ∷ xs) (reverse-append pending ((2 * path + 1) ∷ [])) in
      record {
        paths = each_push P (pending ++ (2 * path + 1) ∷ []) (2 * path) (each_push P pending (2 * path + 1) ps (is_path (2 * path + 1) (upper box) (upper_path vs path box e s))) (is_path (2 * path) (lower box) (lower_path vs path box e s));
        leads = λ rest b.
            let b2 = subst (λ ps. Builds vs best closed ps rest) turned b in
            let s = w.leads (node.Split v k ∷ rest) (subst (λ ps. Builds vs best closed ps (node.Split v k ∷ rest)) (sym (reverse-append pending (path ∷ []))) (split_on v k rest path (reverse pending) h b2)) in
            subst (λ xs. Builds vs best closed (1 ∷ []) xs) (sym (append_assoc nodes (node.Split v k ∷ []) rest)) s;
      }

  pub way_first : UnderWay vs best closed (1 ∷ []) []
  way_first = record { paths = (is_path 1 (whole vs) (box_root vs), tt); leads = λ rest b. b }

  -- the one tree of all nodes
  pub record Whole (nodes : List Node) : Type 0 where
    pub tree : Tree
    pub nodes_are : nodes_of tree ≡ nodes
    pub built : IsBuilt vs best closed tree 1

  append_nil : (xs : List Node) → xs ++ [] ≡ xs
  append_nil [] = refl
  append_nil (x ∷ xs) = ap (λ ys. x ∷ ys) (append_nil xs)

  pub way_done : (nodes : List Node) → UnderWay vs best closed [] nodes → Whole nodes
  way_done nodes w =
      let b = w.leads [] refl in
      record { tree = b.0; nodes_are = sym (sym (append_nil nodes) ∙ b.2 ∙ ap (λ xs. nodes_of b.0 ++ xs) b.4 ∙ append_nil (nodes_of b.0)); built = b.3 }
