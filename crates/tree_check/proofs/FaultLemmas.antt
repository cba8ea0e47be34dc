-- A proof is accepted exactly where no node is at fault.
use Rattle.std.proofs.Common.{◌≡◌, ℕ, ◌+◌, List, [], ◌∷◌, ◌++◌, length, Bool, true, false, ◌||◌, Option, Some, None, ◌⊎◌, inl, inr, refl, sym, ap, ◌∙◌, append_assoc}
use Rattle.std.specs.List.{list_any}
use Rattle.res_base.proofs.SumLemmas.{bool_cases}
use Rattle.box_split.specs.Boxes.{Run, whole}
use Rattle.search_api.specs.Meaning.{Meaning}
use Rattle.refutation.specs.declared.node.Node.{Node}
use Rattle.refutation.specs.declared.node.Node.TheVariants as node
use Rattle.refutation.specs.Trees.{Tree, BadLeaf, RankLeaf, WitnessLeaf, Fork, nodes_of, low_part, high_part, Accepts, HasWitness, NeedsWitness, IsAccepted}
use Rattle.tree_check.specs.Faults.{keeps_rule, parts_of, fault_from, is_witness_leaf, fault_of_witness, first_of, fault_at}
use Rattle.tree_check.proofs.PartLemmas.{splits, splits_back, witness, witness_back}

some_not : {A : Type 0} (n : ℕ) (o : Option ℕ) → o ≡ Some n → o ≡ None → A
some_not n o e f = cc

module _ (m : Meaning) (bound : Option ℕ) where
  pub kept_on : (k : ℕ) (n : Node) (ns : List Node) (box : List Run) (boxes : List (List Run)) → keeps_rule m bound n box ≡ true → fault_from m bound k (n ∷ ns) (box ∷ boxes) ≡ fault_from m bound (k + 1) ns (parts_of n box ++ boxes)
  unfolding fault_from
  kept_on k n ns box boxes h = rw h refl

  pub broken_here : (k : ℕ) (n : Node) (ns : List Node) (box : List Run) (boxes : List (List Run)) → keeps_rule m bound n box ≡ false → fault_from m bound k (n ∷ ns) (box ∷ boxes) ≡ Some k
  unfolding fault_from
  broken_here k n ns box boxes h = rw h refl

  -- an accepted tree takes up its nodes
  runs : (tree : Tree) (box : List Run) → Accepts m bound tree box → (boxes : List (List Run)) (rest : List Node) (k : ℕ) → (j : ℕ) × (fault_from m bound k (nodes_of tree ++ rest) (box ∷ boxes) ≡ fault_from m bound j rest boxes)
  runs (BadLeaf reason) box a boxes rest k = (k + 1, kept_on k (node.Bad reason) rest box boxes a)
  runs RankLeaf box a boxes rest k = (k + 1, kept_on k node.Rank rest box boxes a)
  runs WitnessLeaf box a boxes rest k = (k + 1, kept_on k node.Witness rest box boxes (witness_back m bound box a))
  runs (Fork v w l r) box a boxes rest k =
      let low = low_part v w box in
      let high = high_part v w box in
      let first = runs l low a.1 (high ∷ boxes) (nodes_of r ++ rest) (k + 1) in
      let second = runs r high a.2 boxes rest first.0 in (
        second.0,
        kept_on k (node.Split v w) ((nodes_of l ++ nodes_of r) ++ rest) box boxes (splits_back v w box a.0)
            ∙ ap (λ (ns : List Node). fault_from m bound (k + 1) ns (low ∷ high ∷ boxes)) (append_assoc (nodes_of l) (nodes_of r) rest)
            ∙ first.1 ∙ second.1,
      )

  -- boxes that take up the nodes, a tree each
  unfoldable pub Takes : List (List Run) → List Node → Type 0
  Takes [] nodes = nodes ≡ []
  Takes (box ∷ boxes) nodes = (tree : Tree) × (rest : List Node) × (nodes ≡ nodes_of tree ++ rest) × Accepts m bound tree box × Takes boxes rest

  leaf_on : (n : Node) (ns : List Node) (box : List Run) (boxes : List (List Run)) → keeps_rule m bound n box ≡ true → Takes (parts_of n box ++ boxes) ns → Takes (box ∷ boxes) (n ∷ ns)
  unfolding Takes
  leaf_on (node.Bad reason) ns box boxes h t = (BadLeaf reason, ns, refl, h, t)
  leaf_on node.Rank ns box boxes h t = (RankLeaf, ns, refl, h, t)
  leaf_on node.Witness ns box boxes h t = (WitnessLeaf, ns, refl, witness m bound box h, t)
  leaf_on (node.Split v k) ns box boxes h t =
      let l = t in
      let r = t.4 in (
        Fork v k l.0 r.0,
        r.1,
        ap (λ xs. node.Split v k ∷ xs) (l.2 ∙ ap (λ xs. nodes_of l.0 ++ xs) r.2 ∙ sym (append_assoc (nodes_of l.0) (nodes_of r.0) r.1)),
        (splits v k box h, l.3, r.3),
        r.4,
      )

  pub takes : (nodes : List Node) (boxes : List (List Run)) (k : ℕ) → fault_from m bound k nodes boxes ≡ None → Takes boxes nodes
  unfolding Takes fault_from
  takes [] [] k e = refl
  takes [] (box ∷ boxes) k e = cc
  takes (n ∷ ns) [] k e = cc
  takes (n ∷ ns) (box ∷ boxes) k e = elim (bool_cases (keeps_rule m bound n box)) [
    | inl h ↦ leaf_on n ns box boxes h (takes ns (parts_of n box ++ boxes) (k + 1) (sym (kept_on k n ns box boxes h) ∙ e))
    | inr h ↦ some_not k (fault_from m bound k (n ∷ ns) (box ∷ boxes)) (broken_here k n ns box boxes h) e
  ]

-- ---- the witness

any_join : (xs ys : List Node) → list_any is_witness_leaf (xs ++ ys) ≡ (list_any is_witness_leaf xs || list_any is_witness_leaf ys)
any_join [] ys = refl
any_join (x ∷ xs) ys = or_join (is_witness_leaf x) (list_any is_witness_leaf (xs ++ ys)) (list_any is_witness_leaf xs) (list_any is_witness_leaf ys) (any_join xs ys)
  where
    or_join : (a b c d : Bool) → b ≡ (c || d) → (a || b) ≡ ((a || c) || d)
    or_join true b c d e = refl
    or_join false b c d e = e

or_cases : (a b : Bool) → (a || b) ≡ true → (a ≡ true) ⊎ (b ≡ true)
or_cases true b e = inl refl
or_cases false b e = inr e

or_left : (a b : Bool) → a ≡ true → (a || b) ≡ true
or_left true b e = refl
or_left false b e = cc

or_right : (a b : Bool) → b ≡ true → (a || b) ≡ true
or_right true b e = refl
or_right false b e = e

named : (tree : Tree) → HasWitness tree → list_any is_witness_leaf (nodes_of tree) ≡ true
named (BadLeaf reason) w = absurd w
named RankLeaf w = absurd w
named WitnessLeaf w = refl
named (Fork v k l r) w = any_join (nodes_of l) (nodes_of r) ∙ elim w [
  | inl y ↦ or_left (list_any is_witness_leaf (nodes_of l)) (list_any is_witness_leaf (nodes_of r)) (named l y)
  | inr y ↦ or_right (list_any is_witness_leaf (nodes_of l)) (list_any is_witness_leaf (nodes_of r)) (named r y)
]

named_back : (tree : Tree) → list_any is_witness_leaf (nodes_of tree) ≡ true → HasWitness tree
named_back (BadLeaf reason) e = let q : false ≡ true = e in cc
named_back RankLeaf e = let q : false ≡ true = e in cc
named_back WitnessLeaf e = tt
named_back (Fork v k l r) e = elim (or_cases (list_any is_witness_leaf (nodes_of l)) (list_any is_witness_leaf (nodes_of r)) (sym (any_join (nodes_of l) (nodes_of r)) ∙ e)) [
  | inl y ↦ inl (named_back l y)
  | inr y ↦ inr (named_back r y)
]

pub no_fault : (bound : Option ℕ) (tree : Tree) → NeedsWitness bound tree → fault_of_witness bound (nodes_of tree) ≡ None
no_fault None tree w = refl
no_fault (Some bound) tree w = rw (named tree w) refl

pub needs : (bound : Option ℕ) (tree : Tree) → fault_of_witness bound (nodes_of tree) ≡ None → NeedsWitness bound tree
needs None tree e = tt
needs (Some bound) tree e = elim (bool_cases (list_any is_witness_leaf (nodes_of tree))) [
  | inl h ↦ named_back tree h
  | inr h ↦ some_not (length (nodes_of tree)) (fault_of_witness (Some bound) (nodes_of tree)) (rw h refl) e
]

-- ---- the two together

both_none : (a b : Option ℕ) → first_of a b ≡ None → (a ≡ None) × (b ≡ None)
both_none None b e = (refl, e)
both_none (Some n) b e = cc

append_none : (ns : List Node) → ns ++ [] ≡ ns
append_none [] = refl
append_none (n ∷ ns) = ap (λ xs. n ∷ xs) (append_none ns)

module _ (m : Meaning) (bound : Option ℕ) (nodes : List Node) where
  pub faultless : IsAccepted m bound nodes → fault_at m bound nodes ≡ None
  unfolding fault_at fault_from
  faultless a =
      let walk = runs m bound a.tree (whole m.shape) a.accepts [] [] 0 in
      let none : fault_from m bound 0 nodes (whole m.shape ∷ []) ≡ None =
      ap (λ (ns : List Node). fault_from m bound 0 ns (whole m.shape ∷ [])) (sym a.nodes_are ∙ sym (append_none (nodes_of a.tree))) ∙ walk.1 in
      let late : fault_of_witness bound nodes ≡ None = ap (fault_of_witness bound) (sym a.nodes_are) ∙ no_fault bound a.tree a.witness in
      rw none late

  pub accepted : fault_at m bound nodes ≡ None → IsAccepted m bound nodes
  unfolding fault_at Takes
  accepted e =
      let b = both_none (fault_from m bound 0 nodes (whole m.shape ∷ [])) (fault_of_witness bound nodes) e in
      let t = takes m bound nodes (whole m.shape ∷ []) 0 b.0 in
      let are : nodes_of t.0 ≡ nodes = sym (t.2 ∙ ap (λ xs. nodes_of t.0 ++ xs) t.4 ∙ append_none (nodes_of t.0)) in
      record { tree = t.0; nodes_are = are; accepts = t.3; witness = needs bound t.0 (ap (fault_of_witness bound) are ∙ b.1) }

  pub rejected : (number : ℕ) → fault_at m bound nodes ≡ Some number → IsAccepted m bound nodes → ⊥
  rejected number e a = some_not number (fault_at m bound nodes) e (faultless a)
