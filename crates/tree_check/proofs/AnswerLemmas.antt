-- What an accepted tree says of the choices that are legal.
use Rattle.std.proofs.Common.{◌≡◌, ℕ, ◌<◌, ◌≤◌, List, true, false, Option, Some, None, inl, inr, arith}
use Rattle.std.proofs.lemmas.Bool.Decides.{nat_tests}
use Rattle.choice_rank.specs.Choices.{IsChoice, rank_of}
use Rattle.choice_rank.specs.Least.{IsAnswer}
use Rattle.box_split.specs.Boxes.{Run, IsBox, LiesIn, whole, low_of, lows}
use Rattle.box_split.proofs.LawLemmas.{holds_in, whole_lies}
use Rattle.box_split.proofs.PathLemmas.{lows_choice, whole_box}
use Rattle.box_split.proofs.RunLemmas.{low_rank}
use Rattle.search_api.specs.Meaning.{Meaning}
use Rattle.refutation.specs.declared.node.Node.{Node}
use Rattle.refutation.specs.Outcomes.{is_below}
use Rattle.refutation.specs.Trees.{Tree, BadLeaf, RankLeaf, WitnessLeaf, Fork, low_part, high_part, IsWitness, Accepts, HasWitness, IsAccepted}
use Rattle.tree_check.specs.Sound.{HasSoundReasons}
use Rattle.tree_check.proofs.PartLemmas.{low_is_box, high_is_box, in_part}

module _ (m : Meaning) (sound : HasSoundReasons m) where
  -- there is a bound, and the rank of the choice is not below it
  abbrev IsAtLeast : Option ℕ → List ℕ → Type 0
  IsAtLeast None c = ⊥
  IsAtLeast (Some bound) c = bound ≤ rank_of m.shape c

  above : (bound : Option ℕ) (box : List Run) (c : List ℕ) → is_below bound (low_of m.shape box) ≡ true → LiesIn box c → IsAtLeast bound c
  above None box c a h = let q : false ≡ true = a in cc
  above (Some bound) box c a h =
      let under : bound < low_of m.shape box = grind (arith, nat_tests, a) in
      omega (arith, under, low_rank m.shape box c (holds_in box c h))

  at_witness : (bound : Option ℕ) (box : List Run) (c : List ℕ) → IsWitness m bound box → LiesIn box c → IsAtLeast bound c
  at_witness None box c a h = absurd a
  at_witness (Some bound) box c a h = omega (arith, a.2, low_rank m.shape box c (holds_in box c h))

  none_below : (bound : Option ℕ) (tree : Tree) (box : List Run) → IsBox m.shape box → Accepts m bound tree box → (c : List ℕ) → IsChoice m.shape c → LiesIn box c → m.legal c ≡ true → IsAtLeast bound c
  none_below bound (BadLeaf reason) box b a c i h l = absurd (sound.none_legal reason box b a c i h l)
  none_below bound RankLeaf box b a c i h l = above bound box c a h
  none_below bound WitnessLeaf box b a c i h l = at_witness bound box c a h
  none_below bound (Fork v k left right) box b a c i h l = elim (in_part v k box c h) [
    | inl y ↦ none_below bound left (low_part v k box) (low_is_box m.shape v k box b a.0) a.1 c i y l
    | inr y ↦ none_below bound right (high_part v k box) (high_is_box m.shape v k box b a.0) a.2 c i y l
  ]

  found : (bound : ℕ) (tree : Tree) (box : List Run) → IsBox m.shape box → Accepts m (Some bound) tree box → HasWitness tree → (c : List ℕ) × IsChoice m.shape c × (m.legal c ≡ true) × (rank_of m.shape c ≡ bound)
  found bound (BadLeaf reason) box b a w = absurd w
  found bound RankLeaf box b a w = absurd w
  found bound WitnessLeaf box b a w = (lows box, lows_choice m.shape box b, a.1, a.2)
  found bound (Fork v k left right) box b a w = elim w [
    | inl y ↦ found bound left (low_part v k box) (low_is_box m.shape v k box b a.0) a.1 y
    | inr y ↦ found bound right (high_part v k box) (high_is_box m.shape v k box b a.0) a.2 y
  ]

  pub answer : (bound : Option ℕ) (nodes : List Node) → IsAccepted m bound nodes → IsAnswer m.shape m.legal bound
  answer None nodes a = λ c i l. none_below None a.tree (whole m.shape) (whole_box m.shape sound.is_shape.positions) a.accepts c i (whole_lies m.shape c i) l
  answer (Some bound) nodes a =
      let b = whole_box m.shape sound.is_shape.positions in
      let f = found bound a.tree (whole m.shape) b a.accepts a.witness in (
        f.0,
        record {
          is_choice = f.1;
          is_legal = f.2;
          is_lowest = λ c i l. omega (arith, f.3, none_below (Some bound) a.tree (whole m.shape) b a.accepts c i (whole_lies m.shape c i) l);
        },
        f.3,
      )
