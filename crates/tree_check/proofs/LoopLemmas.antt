-- The walk over the nodes, a node at a time.
use Rattle.std.proofs.Common.{◌≡◌, ℕ, ◌+◌, ◌<◌, ◌≤◌, List, [], ◌∷◌, ◌++◌, length, get_or, drop, true, false, Option, Some, None, refl, sym, ap, subst, ◌∙◌, arith}
use Rattle.std.specs.Prelude.{reverse}
use Rattle.std.proofs.lemmas.List.{drop_all, drop_more, length-map, length-reverse}
use Rattle.box_split.specs.declared.buffer.BoxBuf.{BoxBuf}
use Rattle.box_split.specs.BoxIn.{box_in}
use Rattle.box_split.specs.Boxes.{Run, IsBox, whole}
use Rattle.search_api.specs.Meaning.{Meaning}
use Rattle.refutation.specs.declared.node.Node.{Node}
use Rattle.refutation.specs.declared.node.Node.TheVariants as node
use Rattle.tree_check.specs.Due.{boxes_of, can_part, AreBoxes}
use Rattle.tree_check.specs.Faults.{keeps_rule, parts_of, fault_from}
use Rattle.tree_check.proofs.FaultLemmas.{kept_on, broken_here}
use Rattle.tree_check.proofs.StackLemmas.{boxes_push}

pub can_part_where : (m : Meaning) (bound : Option ℕ) (n : Node) (box : List Run) → keeps_rule m bound n box ≡ true → can_part n box ≡ true
can_part_where m bound (node.Split v k) box h = h
can_part_where m bound (node.Bad reason) box h = refl
can_part_where m bound node.Rank box h = refl
can_part_where m bound node.Witness box h = refl

module _ (m : Meaning) (bound : Option ℕ) (all : List Node) where
  -- the first fault from node i on is the first of all
  pub record StandsAt (i : ℕ) (stack : List BoxBuf) : Type 0 where
    pub are_boxes : AreBoxes m.shape (boxes_of m.shape stack)
    pub same : fault_from m bound i (drop i all) (boxes_of m.shape stack) ≡ fault_from m bound 0 all (whole m.shape ∷ [])

  pub stands_first : (stack : List BoxBuf) → boxes_of m.shape stack ≡ whole m.shape ∷ [] → AreBoxes m.shape (boxes_of m.shape stack) → StandsAt 0 stack
  stands_first stack e a = record { are_boxes = a; same = ap (fault_from m bound 0 all) e }

  -- no box is due for a node
  pub none_due : (i : ℕ) (d : Node) → i < length all → StandsAt i [] → Some i ≡ fault_from m bound 0 all (whole m.shape ∷ [])
  unfolding fault_from
  none_due i d l s = sym (ap (λ (ns : List Node). fault_from m bound i ns []) (drop_more all i d l)) ∙ s.same

  module _ (i : ℕ) (d : Node) (l : i < length all) (rest : List BoxBuf) (b : BoxBuf) (s : StandsAt i (rest ++ b ∷ [])) where
    pub popped : IsBox m.shape (box_in m.shape b) × AreBoxes m.shape (boxes_of m.shape rest)
    popped = let a = subst (AreBoxes m.shape) (boxes_push m.shape rest b) s.are_boxes in (a.0, a.1)

    here : fault_from m bound i (get_or all i d ∷ drop (i + 1) all) (box_in m.shape b ∷ boxes_of m.shape rest) ≡ fault_from m bound 0 all (whole m.shape ∷ [])
    here =
        sym (ap (λ (ns : List Node). fault_from m bound i ns (box_in m.shape b ∷ boxes_of m.shape rest)) (drop_more all i d l))
        ∙ sym (ap (fault_from m bound i (drop i all)) (boxes_push m.shape rest b)) ∙ s.same

    pub broken : keeps_rule m bound (get_or all i d) (box_in m.shape b) ≡ false → Some i ≡ fault_from m bound 0 all (whole m.shape ∷ [])
    broken h = sym (broken_here m bound i (get_or all i d) (drop (i + 1) all) (box_in m.shape b) (boxes_of m.shape rest) h) ∙ here

    pub stands_next : (new : List BoxBuf) → keeps_rule m bound (get_or all i d) (box_in m.shape b) ≡ true → boxes_of m.shape new ≡ parts_of (get_or all i d) (box_in m.shape b) ++ boxes_of m.shape rest → AreBoxes m.shape (boxes_of m.shape new) → StandsAt (i + 1) new
    stands_next new h e a = record {
      are_boxes = a;
      same = ap (fault_from m bound (i + 1) (drop (i + 1) all)) e
          ∙ sym (kept_on m bound i (get_or all i d) (drop (i + 1) all) (box_in m.shape b) (boxes_of m.shape rest) h) ∙ here;
    }

  pub ended : (i : ℕ) (stack : List BoxBuf) → length all ≤ i → length stack ≡ 0 → StandsAt i stack → None ≡ fault_from m bound 0 all (whole m.shape ∷ [])
  unfolding fault_from
  ended i [] l e s = sym (ap (λ (ns : List Node). fault_from m bound i ns []) (drop_all i all l)) ∙ s.same
  ended i (b ∷ bs) l e s = absurd (omega arith)

  early : (i : ℕ) (boxes : List (List Run)) → length all ≤ i → 0 < length boxes → fault_from m bound i (drop i all) boxes ≡ fault_from m bound 0 all (whole m.shape ∷ []) → Some i ≡ fault_from m bound 0 all (whole m.shape ∷ [])
  unfolding fault_from
  early i [] l n e = absurd (omega arith)
  early i (box ∷ boxes) l n e = sym (ap (λ (ns : List Node). fault_from m bound i ns (box ∷ boxes)) (drop_all i all l)) ∙ e

  pub ended_early : (i : ℕ) (stack : List BoxBuf) → length all ≤ i → i ≤ length all → 0 < length stack → StandsAt i stack → Some (length all) ≡ fault_from m bound 0 all (whole m.shape ∷ [])
  ended_early i stack l u n s =
      let many : length (boxes_of m.shape stack) ≡ length stack = length-map (reverse stack) (λ b. box_in m.shape b) ∙ length-reverse stack in
      let last : length all ≡ i = omega arith in
      ap (λ (k : ℕ). Some k) last ∙ early i (boxes_of m.shape stack) l (omega (arith, n, many)) s.same
