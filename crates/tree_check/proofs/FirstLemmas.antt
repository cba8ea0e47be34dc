-- The number that is named is that of the first node at fault.
use Rattle.std.proofs.Common.{◌≡◌, ℕ, ◌+◌, List, [], ◌∷◌, ◌++◌, length, true, false, Option, Some, None, ◌⊎◌, inl, inr, refl, sym, ap, subst, ◌∙◌, append_assoc, arith}
use Rattle.std.specs.List.{list_any}
use Rattle.res_base.specs.Lists.{Each}
use Rattle.res_base.proofs.SumLemmas.{bool_cases}
use Rattle.box_split.specs.Boxes.{Run, whole}
use Rattle.search_api.specs.Meaning.{Meaning}
use Rattle.refutation.specs.declared.node.Node.{Node}
use Rattle.refutation.specs.declared.node.Node.TheVariants as node
use Rattle.refutation.specs.Trees.{Tree, BadLeaf, RankLeaf, WitnessLeaf, Fork, nodes_of, low_part, high_part, Accepts, NeedsWitness}
use Rattle.tree_check.specs.Faults.{keeps_rule, parts_of, fault_from, is_witness_leaf, fault_of_witness, first_of, fault_at}
use Rattle.tree_check.specs.First.{Stand, stands, nodes_in, HoldsOf, KeepsRule, IsFirstAtFault, breaks, ends, goes_on, unwitnessed}
use Rattle.tree_check.proofs.FaultLemmas.{kept_on, broken_here, Takes, takes, needs, no_fault}
use Rattle.tree_check.proofs.PartLemmas.{splits, splits_back, witness, witness_back}

-- ---- trees that stand on boxes, one on each

abbrev Stands : List (List Run) → List Stand → Type 0
Stands [] ss = ss ≡ []
Stands (box ∷ boxes) ss = (tree : Tree) × (rest : List Stand) × (ss ≡ stands tree box ++ rest) × Stands boxes rest

-- a node on its box, with trees on the boxes below it
grown : (n : Node) (box : List Run) (boxes : List (List Run)) (ss : List Stand) → Stands (parts_of n box ++ boxes) ss → Stands (box ∷ boxes) (record { node = n; box = box } ∷ ss)
grown (node.Bad reason) box boxes ss t = (BadLeaf reason, ss, refl, t)
grown node.Rank box boxes ss t = (RankLeaf, ss, refl, t)
grown node.Witness box boxes ss t = (WitnessLeaf, ss, refl, t)
grown (node.Split v k) box boxes ss t =
    let l = t in
    let r = t.3 in
    let ls = stands l.0 (low_part v k box) in
    let rs = stands r.0 (high_part v k box) in (
      Fork v k l.0 r.0,
      r.1,
      ap (λ (xs : List Stand). record { node = node.Split v k; box = box } ∷ xs) (l.2 ∙ ap (λ (xs : List Stand). ls ++ xs) r.2 ∙ sym (append_assoc ls rs r.1)),
      r.3,
    )

-- some trees
some_trees : (boxes : List (List Run)) → (ss : List Stand) × Stands boxes ss
some_trees [] = ([], refl)
some_trees (box ∷ boxes) = let t = some_trees boxes in (record { node = node.Rank; box = box } ∷ t.0, (RankLeaf, t.0, refl, t.1))

module _ (m : Meaning) (bound : Option ℕ) where
  holds : (n : Node) (box : List Run) → keeps_rule m bound n box ≡ true → HoldsOf m bound n box
  holds (node.Bad reason) box h = h
  holds node.Rank box h = h
  holds node.Witness box h = witness m bound box h
  holds (node.Split v k) box h = splits v k box h

  holds_back : (n : Node) (box : List Run) → HoldsOf m bound n box → keeps_rule m bound n box ≡ true
  holds_back (node.Bad reason) box h = h
  holds_back node.Rank box h = h
  holds_back node.Witness box h = witness_back m bound box h
  holds_back (node.Split v k) box h = splits_back v k box h

  holds_not : (n : Node) (box : List Run) → keeps_rule m bound n box ≡ false → HoldsOf m bound n box → ⊥
  holds_not n box h k = let e = holds_back n box k in cc

  not_holds : (n : Node) (box : List Run) → (HoldsOf m bound n box → ⊥) → keeps_rule m bound n box ≡ false
  not_holds n box broken = elim (bool_cases (keeps_rule m bound n box)) [
    | inl h ↦ absurd (broken (holds n box h))
    | inr h ↦ h
  ]

  -- the first fault among nodes that begin at a number, where these boxes are due
  data Faulty (nodes : List Node) (boxes : List (List Run)) (from number : ℕ) : Type 0 where
    breaks_here : (before after : List Stand) (here : Stand) (rest : List Node) → Stands boxes (before ++ here ∷ after) → nodes ≡ nodes_in before ++ here.node ∷ rest
        → number ≡ from + length before → Each (KeepsRule m bound) before → (KeepsRule m bound here → ⊥) → Faulty nodes boxes from number
    ends_here : (before after : List Stand) (here : Stand) → Stands boxes (before ++ here ∷ after) → nodes ≡ nodes_in before
        → number ≡ from + length before → Each (KeepsRule m bound) before → Faulty nodes boxes from number
    goes_on_here : (all : List Stand) (next : Node) (rest : List Node) → Stands boxes all → nodes ≡ nodes_in all ++ next ∷ rest
        → number ≡ from + length all → Each (KeepsRule m bound) all → Faulty nodes boxes from number

  further : (n : Node) (ns : List Node) (box : List Run) (boxes : List (List Run)) (from number : ℕ) → keeps_rule m bound n box ≡ true → Faulty ns (parts_of n box ++ boxes) (from + 1) number → Faulty (n ∷ ns) (box ∷ boxes) from number
  further n ns box boxes from number h (breaks_here before after here rest t e k each not) =
      breaks_here (record { node = n; box = box } ∷ before) after here rest (grown n box boxes (before ++ here ∷ after) t) (ap (λ xs. n ∷ xs) e) (omega (arith, k)) (holds n box h, each) not
  further n ns box boxes from number h (ends_here before after here t e k each) =
      ends_here (record { node = n; box = box } ∷ before) after here (grown n box boxes (before ++ here ∷ after) t) (ap (λ xs. n ∷ xs) e) (omega (arith, k)) (holds n box h, each)
  further n ns box boxes from number h (goes_on_here all next rest t e k each) =
      goes_on_here (record { node = n; box = box } ∷ all) next rest (grown n box boxes all t) (ap (λ xs. n ∷ xs) e) (omega (arith, k)) (holds n box h, each)

  some_is : (a b : ℕ) → ◌≡◌ {A = Option ℕ} (Some a) (Some b) → b ≡ a
  some_is a b e = cc

  faulty : (nodes : List Node) (boxes : List (List Run)) (from number : ℕ) → fault_from m bound from nodes boxes ≡ Some number → Faulty nodes boxes from number
  unfolding fault_from
  faulty [] [] from number e = let q : ◌≡◌ {A = Option ℕ} None (Some number) = e in cc
  faulty [] (box ∷ boxes) from number e =
      let t = some_trees boxes in
      let k = some_is from number e in
      ends_here [] t.0 (record { node = node.Rank; box = box }) (grown node.Rank box boxes t.0 t.1) refl (omega (arith, k)) tt
  faulty (n ∷ ns) [] from number e = let k = some_is from number e in goes_on_here [] n ns refl refl (omega (arith, k)) tt
  faulty (n ∷ ns) (box ∷ boxes) from number e = elim (bool_cases (keeps_rule m bound n box)) [
    | inl h ↦ further n ns box boxes from number h (faulty ns (parts_of n box ++ boxes) (from + 1) number (sym (kept_on m bound from n ns box boxes h) ∙ e))
    | inr h ↦
        let t = some_trees (parts_of n box ++ boxes) in
        let k = some_is from number (sym (broken_here m bound from n ns box boxes h) ∙ e) in
        breaks_here [] t.0 (record { node = n; box = box }) ns (grown n box boxes t.0 t.1) refl (omega (arith, k)) tt (holds_not n box h)
  ]

  each_join : (xs ys : List Stand) → Each (KeepsRule m bound) xs → Each (KeepsRule m bound) ys → Each (KeepsRule m bound) (xs ++ ys)
  each_join [] ys a b = b
  each_join (x ∷ xs) ys a b = (a.0, each_join xs ys a.1 b)

  -- each node of an accepted tree keeps its rule
  each_keeps : (tree : Tree) (box : List Run) → Accepts m bound tree box → Each (KeepsRule m bound) (stands tree box)
  each_keeps (BadLeaf reason) box a = (a, tt)
  each_keeps RankLeaf box a = (a, tt)
  each_keeps WitnessLeaf box a = (a, tt)
  each_keeps (Fork v k l r) box a =
      (a.0, each_join (stands l (low_part v k box)) (stands r (high_part v k box)) (each_keeps l (low_part v k box) a.1) (each_keeps r (high_part v k box) a.2))

nodes_join : (xs ys : List Stand) → nodes_in (xs ++ ys) ≡ nodes_in xs ++ nodes_in ys
nodes_join [] ys = refl
nodes_join (x ∷ xs) ys = ap (λ (ns : List Node). x.node ∷ ns) (nodes_join xs ys)

-- the nodes that stand in a tree are its nodes
pub nodes_stand : (tree : Tree) (box : List Run) → nodes_in (stands tree box) ≡ nodes_of tree
nodes_stand (BadLeaf reason) box = refl
nodes_stand RankLeaf box = refl
nodes_stand WitnessLeaf box = refl
nodes_stand (Fork v k l r) box =
    let ls = stands l (low_part v k box) in
    let rs = stands r (high_part v k box) in
    ap (λ (ns : List Node). node.Split v k ∷ ns) (nodes_join ls rs ∙ ap (λ (ns : List Node). ns ++ nodes_in rs) (nodes_stand l (low_part v k box)) ∙ ap (λ (ns : List Node). nodes_of l ++ ns) (nodes_stand r (high_part v k box)))

append_nil : (ss : List Stand) → ss ++ [] ≡ ss
append_nil [] = refl
append_nil (s ∷ ss) = ap (λ xs. s ∷ xs) (append_nil ss)

nodes_nil : (ns : List Node) → ns ++ [] ≡ ns
nodes_nil [] = refl
nodes_nil (n ∷ ns) = ap (λ xs. n ∷ xs) (nodes_nil ns)

-- trees on one box are one tree
one_tree : (box : List Run) (ss : List Stand) (t : Stands (box ∷ []) ss) → stands t.0 box ≡ ss
one_tree box ss t = sym (t.2 ∙ ap (λ (xs : List Stand). stands t.0 box ++ xs) t.3 ∙ append_nil (stands t.0 box))

first_cases : (a b : Option ℕ) (number : ℕ) → first_of a b ≡ Some number → (a ≡ Some number) ⊎ ((a ≡ None) × (b ≡ Some number))
first_cases None b number e = inr (refl, e)
first_cases (Some n) b number e = inl e

some_or_not : {A : Type 0} (n : ℕ) (o : Option ℕ) → o ≡ Some n → o ≡ None → A
some_or_not n o e f = cc

witness_number : (bound : Option ℕ) (nodes : List Node) (number : ℕ) → fault_of_witness bound nodes ≡ Some number → number ≡ length nodes
witness_number None nodes number e = let q : ◌≡◌ {A = Option ℕ} None (Some number) = e in cc
witness_number (Some b) nodes number e = elim (bool_cases (list_any is_witness_leaf nodes)) [
  | inl h ↦ let q : ◌≡◌ {A = Option ℕ} None (Some number) = sym (rw h refl) ∙ e in cc
  | inr h ↦ let q : ◌≡◌ {A = Option ℕ} (Some (length nodes)) (Some number) = sym (rw h refl) ∙ e in cc
]

-- the number that is named is that of the first node at fault
module _ (m : Meaning) (bound : Option ℕ) (nodes : List Node) (number : ℕ) where
  told : Faulty m bound nodes (whole m.shape ∷ []) 0 number → IsFirstAtFault m bound nodes number
  told (breaks_here before after here rest t e k each not) = breaks t.0 before after here rest (one_tree (whole m.shape) (before ++ here ∷ after) t) e (omega (arith, k)) each not
  told (ends_here before after here t e k each) = ends t.0 before after here (one_tree (whole m.shape) (before ++ here ∷ after) t) e (omega (arith, k)) each
  told (goes_on_here all next rest t e k each) =
      let is : all ≡ stands t.0 (whole m.shape) = sym (one_tree (whole m.shape) all t) in
      let n : number ≡ length all = omega (arith, k) in
      goes_on t.0 next rest (e ∙ ap (λ (xs : List Stand). nodes_in xs ++ next ∷ rest) is) (n ∙ ap length is) (subst (λ (xs : List Stand). Each (KeepsRule m bound) xs) is each)

  -- no node breaks its rule, and the bound has no witness
  told_late : fault_from m bound 0 nodes (whole m.shape ∷ []) ≡ None → fault_of_witness bound nodes ≡ Some number → IsFirstAtFault m bound nodes number
  unfolding Takes
  told_late kept late =
      let t = takes m bound nodes (whole m.shape ∷ []) 0 kept in
      let are : nodes_of t.0 ≡ nodes = sym (t.2 ∙ ap (λ (xs : List Node). nodes_of t.0 ++ xs) t.4 ∙ nodes_nil (nodes_of t.0)) in
      unwitnessed t.0 (sym are ∙ sym (nodes_stand t.0 (whole m.shape))) (witness_number bound nodes number late) (each_keeps m bound t.0 (whole m.shape) t.3)
      (λ w. some_or_not number (fault_of_witness bound nodes) late (ap (fault_of_witness bound) (sym are) ∙ no_fault bound t.0 w))

  pub is_first : fault_at m bound nodes ≡ Some number → IsFirstAtFault m bound nodes number
  unfolding fault_at
  is_first e = elim (first_cases (fault_from m bound 0 nodes (whole m.shape ∷ [])) (fault_of_witness bound nodes) number e) [
    | inl y ↦ told (faulty m bound nodes (whole m.shape ∷ []) 0 number y)
    | inr y ↦ told_late y.0 y.1
  ]

-- ---- and back

head_of : (x y : Stand) (xs ys : List Stand) → x ∷ xs ≡ y ∷ ys → x ≡ y
head_of x y xs ys e = cc

tail_of : (x y : Stand) (xs ys : List Stand) → x ∷ xs ≡ y ∷ ys → xs ≡ ys
tail_of x y xs ys e = cc

-- the node on the first box, and the trees on the boxes below it and on the others
abbrev Opened : List Run → List (List Run) → Stand → List Stand → Type 0
Opened box boxes x ss = (n : Node) × ◌≡◌ {A = Stand} x (record { node = n; box = box }) × Stands (parts_of n box ++ boxes) ss

opened : (tree : Tree) (box : List Run) (boxes : List (List Run)) (x : Stand) (ss rest : List Stand) → x ∷ ss ≡ stands tree box ++ rest → Stands boxes rest → Opened box boxes x ss
opened (BadLeaf reason) box boxes x ss rest e t =
    let y : Stand = record { node = node.Bad reason; box = box } in
    (node.Bad reason, head_of x y ss rest e, subst (λ (xs : List Stand). Stands boxes xs) (sym (tail_of x y ss rest e)) t)
opened RankLeaf box boxes x ss rest e t =
    let y : Stand = record { node = node.Rank; box = box } in
    (node.Rank, head_of x y ss rest e, subst (λ (xs : List Stand). Stands boxes xs) (sym (tail_of x y ss rest e)) t)
opened WitnessLeaf box boxes x ss rest e t =
    let y : Stand = record { node = node.Witness; box = box } in
    (node.Witness, head_of x y ss rest e, subst (λ (xs : List Stand). Stands boxes xs) (sym (tail_of x y ss rest e)) t)
opened (Fork v k l r) box boxes x ss rest e t =
    let y : Stand = record { node = node.Split v k; box = box } in
    let ls = stands l (low_part v k box) in
    let rs = stands r (high_part v k box) in
    (node.Split v k, head_of x y ss ((ls ++ rs) ++ rest) e, (l, rs ++ rest, tail_of x y ss ((ls ++ rs) ++ rest) e ∙ append_assoc ls rs rest, (r, rest, refl, t)))

no_stand : {A : Type 0} (tree : Tree) (box : List Run) (rest : List Stand) → [] ≡ stands tree box ++ rest → A
no_stand (BadLeaf reason) box rest e = cc
no_stand RankLeaf box rest e = cc
no_stand WitnessLeaf box rest e = cc
no_stand (Fork v k l r) box rest e = cc

module _ (m : Meaning) (bound : Option ℕ) where
  -- nodes that keep their rules are passed over
  passed : (before tail : List Stand) (boxes : List (List Run)) (rest : List Node) (from : ℕ) → Stands boxes (before ++ tail) → Each (KeepsRule m bound) before
      → (left : List (List Run)) × Stands left tail × (fault_from m bound from (nodes_in before ++ rest) boxes ≡ fault_from m bound (from + length before) rest left)
  passed [] tail boxes rest from t each = let z : from ≡ from + 0 = omega arith in (boxes, t, ap (λ k. fault_from m bound k rest boxes) z)
  passed (x ∷ before) tail [] rest from t each = let e : x ∷ (before ++ tail) ≡ [] = t in cc
  passed (x ∷ before) tail (box ∷ boxes) rest from t each =
      let o = opened t.0 box boxes x (before ++ tail) t.1 t.2 t.3 in
      let go = passed before tail (parts_of o.0 box ++ boxes) rest (from + 1) o.2 each.1 in
      let keeps : keeps_rule m bound o.0 box ≡ true = holds_back m bound o.0 box (subst (λ s. KeepsRule m bound s) o.1 each.0) in
      let z : (from + 1) + length before ≡ from + length (x ∷ before) = omega arith in (
        go.0,
        go.1,
        ap (λ (s : Stand). fault_from m bound from (s.node ∷ (nodes_in before ++ rest)) (box ∷ boxes)) o.1
            ∙ kept_on m bound from o.0 (nodes_in before ++ rest) box boxes keeps ∙ go.2 ∙ ap (λ k. fault_from m bound k rest go.0) z,
      )

  broken_at : (boxes : List (List Run)) (here : Stand) (after : List Stand) (rest : List Node) (from : ℕ) → Stands boxes (here ∷ after) → (KeepsRule m bound here → ⊥) → fault_from m bound from (here.node ∷ rest) boxes ≡ Some from
  broken_at [] here after rest from t not = let e : here ∷ after ≡ [] = t in cc
  broken_at (box ∷ boxes) here after rest from t not =
      let o = opened t.0 box boxes here after t.1 t.2 t.3 in
      let broken : HoldsOf m bound o.0 box → ⊥ = λ h. not (subst (λ s. KeepsRule m bound s) (sym o.1) h) in
      ap (λ (s : Stand). fault_from m bound from (s.node ∷ rest) (box ∷ boxes)) o.1 ∙ broken_here m bound from o.0 rest box boxes (not_holds m bound o.0 box broken)

  ended_at : (boxes : List (List Run)) (here : Stand) (after : List Stand) (from : ℕ) → Stands boxes (here ∷ after) → fault_from m bound from [] boxes ≡ Some from
  unfolding fault_from
  ended_at [] here after from t = let e : here ∷ after ≡ [] = t in cc
  ended_at (box ∷ boxes) here after from t = refl

  past : (boxes : List (List Run)) (next : Node) (rest : List Node) (from : ℕ) → Stands boxes [] → fault_from m bound from (next ∷ rest) boxes ≡ Some from
  unfolding fault_from
  past [] next rest from t = refl
  past (box ∷ boxes) next rest from t = no_stand t.0 box t.1 t.2

  all_passed : (boxes : List (List Run)) (from : ℕ) → Stands boxes [] → fault_from m bound from [] boxes ≡ None
  unfolding fault_from
  all_passed [] from t = refl
  all_passed (box ∷ boxes) from t = no_stand t.0 box t.1 t.2

  root : (tree : Tree) (ss : List Stand) → stands tree (whole m.shape) ≡ ss → Stands (whole m.shape ∷ []) ss
  root tree ss e = (tree, [], sym e ∙ sym (append_nil (stands tree (whole m.shape))), refl)

  first_some : (nodes : List Node) (number : ℕ) → fault_from m bound 0 nodes (whole m.shape ∷ []) ≡ Some number → fault_at m bound nodes ≡ Some number
  unfolding fault_at
  first_some nodes number e = ap (λ o. first_of o (fault_of_witness bound nodes)) e

  first_none : (nodes : List Node) → fault_from m bound 0 nodes (whole m.shape ∷ []) ≡ None → fault_at m bound nodes ≡ fault_of_witness bound nodes
  unfolding fault_at
  first_none nodes e = ap (λ o. first_of o (fault_of_witness bound nodes)) e

  no_witness : (tree : Tree) → (NeedsWitness bound tree → ⊥) → fault_of_witness bound (nodes_of tree) ≡ Some (length (nodes_of tree))
  no_witness tree not = lacks bound (nodes_of tree) (λ e. not (needs bound tree e))
    where
      lacks : (b : Option ℕ) (ns : List Node) → (fault_of_witness b ns ≡ None → ⊥) → fault_of_witness b ns ≡ Some (length ns)
      lacks None ns not = absurd (not refl)
      lacks (Some b) ns not = elim (bool_cases (list_any is_witness_leaf ns)) [
        | inl h ↦ absurd (not (rw h refl))
        | inr h ↦ rw h refl
      ]

  pub first_is : (nodes : List Node) (number : ℕ) → IsFirstAtFault m bound nodes number → fault_at m bound nodes ≡ Some number
  first_is nodes number (breaks tree before after here rest t e k each not) =
      let p = passed before (here ∷ after) (whole m.shape ∷ []) (here.node ∷ rest) 0 (root tree (before ++ here ∷ after) t) each in
      let z : 0 + length before ≡ number = omega (arith, k) in
      first_some nodes number (ap (λ ns. fault_from m bound 0 ns (whole m.shape ∷ [])) e ∙ p.2 ∙ broken_at p.0 here after rest (0 + length before) p.1 not ∙ ap (λ n. Some n) z)
  first_is nodes number (ends tree before after here t e k each) =
      let p = passed before (here ∷ after) (whole m.shape ∷ []) [] 0 (root tree (before ++ here ∷ after) t) each in
      let z : 0 + length before ≡ number = omega (arith, k) in
      first_some nodes number (ap (λ ns. fault_from m bound 0 ns (whole m.shape ∷ [])) (e ∙ sym (nodes_nil (nodes_in before))) ∙ p.2 ∙ ended_at p.0 here after (0 + length before) p.1 ∙ ap (λ n. Some n) z)
  first_is nodes number (goes_on tree next rest e k each) =
      let all = stands tree (whole m.shape) in
      let p = passed all [] (whole m.shape ∷ []) (next ∷ rest) 0 (root tree (all ++ []) (sym (append_nil all))) each in
      let z : 0 + length all ≡ number = omega (arith, k) in
      first_some nodes number (ap (λ ns. fault_from m bound 0 ns (whole m.shape ∷ [])) e ∙ p.2 ∙ past p.0 next rest (0 + length all) p.1 ∙ ap (λ n. Some n) z)
  first_is nodes number (unwitnessed tree e k each not) =
      let all = stands tree (whole m.shape) in
      let p = passed all [] (whole m.shape ∷ []) [] 0 (root tree (all ++ []) (sym (append_nil all))) each in
      let none = ap (λ ns. fault_from m bound 0 ns (whole m.shape ∷ [])) (e ∙ sym (nodes_nil (nodes_in all))) ∙ p.2 ∙ all_passed p.0 (0 + length all) p.1 in
      let are : nodes ≡ nodes_of tree = e ∙ nodes_stand tree (whole m.shape) in
      first_none nodes none ∙ ap (fault_of_witness bound) are ∙ no_witness tree not ∙ ap (λ n. Some n) (ap length (sym are) ∙ sym k)
