-- A box has one canonical tree.
use Rattle.std.proofs.Common.{◌≡◌, ℕ, List, Bool, true, false, Option, Some, refl, sym, ap, subst, ◌∙◌}
use Rattle.std.specs.Option.{option_map_or}
use Rattle.box_split.specs.Boxes.{Run, whole, is_single, low_of}
use Rattle.box_split.specs.Paths.{lower, upper}
use Rattle.search_api.specs.declared.verdict.Reason.{Reason}
use Rattle.search_api.specs.declared.verdict.Verdict.{Verdict}
use Rattle.search_api.specs.declared.verdict.Verdict.TheVariants as verdict
use Rattle.refutation.specs.declared.node.Node.{Node}
use Rattle.search_api.specs.Meaning.{Meaning}
use Rattle.refutation.specs.Outcomes.{is_below}
use Rattle.refutation.specs.Trees.{Tree, BadLeaf, RankLeaf, WitnessLeaf, Fork, nodes_of}
use Rattle.refutation.specs.Canonical.{NotBad, IsCanonical, IsCanonicalOf}

both : {A : Type 0} (b : Bool) → b ≡ true → b ≡ false → A
both b t f = let z : true ≡ false = sym t ∙ f in cc

bad_not : {A : Type 0} (v : Verdict) (reason : Reason) → v ≡ verdict.Bad reason → NotBad v → A
bad_not v reason e n = absurd (subst NotBad e n)

module _ (j : Meaning) (bound : Option ℕ) where
  same_tree : (t u : Tree) (box : List Run) → IsCanonical j bound t box → IsCanonical j bound u box → t ≡ u
  same_tree RankLeaf RankLeaf box a b = refl
  same_tree RankLeaf (BadLeaf r) box a b = both (is_below bound (low_of j.shape box)) a b.0
  same_tree RankLeaf WitnessLeaf box a b = both (is_below bound (low_of j.shape box)) a b.0
  same_tree RankLeaf (Fork v k l r) box a b = both (is_below bound (low_of j.shape box)) a b.0
  same_tree (BadLeaf r) RankLeaf box a b = both (is_below bound (low_of j.shape box)) b a.0
  same_tree (BadLeaf r) (BadLeaf q) box a b =
      let e : verdict.Bad r ≡ verdict.Bad q = sym a.1 ∙ b.1 in
      let s : r ≡ q = cc in
      ap BadLeaf s
  same_tree (BadLeaf r) WitnessLeaf box a b = bad_not (j.verdict box) r a.1 b.1
  same_tree (BadLeaf r) (Fork v k l m) box a b = bad_not (j.verdict box) r a.1 b.1
  same_tree WitnessLeaf RankLeaf box a b = both (is_below bound (low_of j.shape box)) b a.0
  same_tree WitnessLeaf (BadLeaf r) box a b = bad_not (j.verdict box) r b.1 a.1
  same_tree WitnessLeaf WitnessLeaf box a b = refl
  same_tree WitnessLeaf (Fork v k l r) box a b = both (is_single box) a.2 b.2
  same_tree (Fork v k l r) RankLeaf box a b = both (is_below bound (low_of j.shape box)) b a.0
  same_tree (Fork v k l m) (BadLeaf r) box a b = bad_not (j.verdict box) r b.1 a.1
  same_tree (Fork v k l r) WitnessLeaf box a b = both (is_single box) b.2 a.2
  same_tree (Fork v k l r) (Fork v2 k2 l2 r2) box a b =
      let e : ◌≡◌ {A = Option (ℕ × ℕ)} (Some (v, k)) (Some (v2, k2)) = sym a.3 ∙ b.3 in
      let ev : v ≡ v2 = ap (λ (o : Option (ℕ × ℕ)). option_map_or (λ (p : ℕ × ℕ). p.0) o 0) e in
      let ek : k ≡ k2 = ap (λ (o : Option (ℕ × ℕ)). option_map_or (λ (p : ℕ × ℕ). p.1) o 0) e in
      let el = same_tree l l2 (lower box) a.4 b.4 in
      let er = same_tree r r2 (upper box) a.5 b.5 in
      cc

  pub same_nodes : (ns ms : List Node) → IsCanonicalOf j bound ns → IsCanonicalOf j bound ms → ns ≡ ms
  same_nodes ns ms a b = sym a.nodes_are ∙ ap nodes_of (same_tree a.tree b.tree (whole j.shape) a.canonical b.canonical) ∙ b.nodes_are
