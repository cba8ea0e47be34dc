-- The tree of an outcome whose reasons and splits are the judge's own is the canonical one.
use Rattle.std.proofs.Common.{◌≡◌, ℕ, ◌+◌, ◌*◌, List, true, Option, Some, None, refl, sym, ap, subst, ◌∙◌}
use Rattle.choice_rank.specs.Choices.{HasPositions}
use Rattle.box_split.specs.Boxes.{Run, whole, is_single, lows, IsBox}
use Rattle.box_split.specs.Paths.{box_of, lower, upper}
use Rattle.box_split.proofs.RunLemmas.{box_root}
use Rattle.box_split.proofs.PathLemmas.{path_box, lows_choice}
use Rattle.search_api.specs.declared.verdict.Verdict.{Verdict}
use Rattle.search_api.specs.declared.verdict.Verdict.TheVariants as verdict
use Rattle.search_api.specs.declared.outcome.Cause.TheVariants as cause
use Rattle.search_api.specs.declared.outcome.Closed.{Closed}
use Rattle.res_base.proofs.ListLemmas.{each_in}
use Rattle.box_split.proofs.PathLemmas.{lower_path, upper_path}
use Rattle.refutation.specs.declared.node.Node.{Node}
use Rattle.search_api.specs.Meaning.{Meaning, IsLawful}
use Rattle.search_api.specs.Accounts.{OpenAbove}
use Rattle.refutation.specs.Outcomes.{IsCovered, IsSound, IsOwn, IsOwned}
use Rattle.refutation.specs.Trees.{Tree, BadLeaf, RankLeaf, WitnessLeaf, Fork, nodes_of, IsWitness}
use Rattle.refutation.specs.Canonical.{IsMade, NotBad, IsCanonical, IsCanonicalOf}
use Rattle.refutation.proofs.CauseLemmas.{cause_in}
use Rattle.box_split.proofs.PrefixLemmas.{lows_held}
use Rattle.box_split.proofs.LawLemmas.{lies}
use Rattle.search_api.proofs.PlaceLemmas.{split_open}
use Rattle.refutation.proofs.AcceptLemmas.{witness_at}

module _ (j : Meaning) (judge : IsLawful j) (best : Option ℕ) (kept : List ℕ) (closed : List Closed) (positions : HasPositions j.shape) (covered : IsCovered j.shape best kept closed) (sound : IsSound j kept closed) (owned : IsOwned j closed) where
  -- a box whose choice is legal is not bad
  not_bad : (box : List Run) → IsBox j.shape box → j.legal (lows box) ≡ true → (v : Verdict) → j.verdict box ≡ v → NotBad v
  not_bad box b l (verdict.Bad reason) e = judge.none_legal reason box b (judge.bad_refutes reason box b e) (lows box) (lows_choice j.shape box b) (lies box (lows box) (lows_held j.shape box b)) l
  not_bad box b l verdict.Legal e = tt
  not_bad box b l verdict.Open e = tt

  legal_of : (o : Option ℕ) (box : List Run) → IsWitness j o box → (is_single box ≡ true) × (j.legal (lows box) ≡ true)
  legal_of None box w = absurd w
  legal_of (Some b) box w = (w.0, w.1)

  pub canon : (tree : Tree) (p : ℕ) (box : List Run) → box_of j.shape p ≡ Some box → IsMade j.shape best closed tree p box → IsCanonical j best tree box
  canon (BadLeaf reason) p box e m =
      let i = cause_in closed p (cause.Bad reason) m.1 in
      (m.0, each_in (IsOwn j) i.0 closed owned.own i.1 reason box i.3 (ap (box_of j.shape) i.2 ∙ e))
  canon RankLeaf p box e m = m
  canon WitnessLeaf p box e m =
      let w = legal_of best box (witness_at j judge best kept closed positions covered sound p m.1.0 box e m.0 m.1.1) in
      (m.0, not_bad box (path_box j.shape p box positions e) w.1 (j.verdict box) refl, w.0)
  canon (Fork v k l r) p box e m =
      let s = split_open box v k m.3 in
      let b = m.2 in
      let o = each_in (λ (x : Closed). OpenAbove j x.path) b.0 closed owned.open_above b.2 b.1 box b.3 (ap (box_of j.shape) b.4 ∙ e) in (
        m.0,
        subst NotBad (sym o) tt,
        s,
        m.3,
        canon l (2 * p) (lower box) (lower_path j.shape p box e s) m.4,
        canon r (2 * p + 1) (upper box) (upper_path j.shape p box e s) m.5,
      )

  pub canonical : (nodes : List Node) (tree : Tree) → nodes_of tree ≡ nodes → IsMade j.shape best closed tree 1 (whole j.shape) → IsCanonicalOf j best nodes
  canonical nodes tree e m = record { tree = tree; nodes_are = e; canonical = canon tree 1 (whole j.shape) (box_root j.shape) m }
