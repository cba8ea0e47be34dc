-- The nodes of a canonical tree have lines.
use Rattle.std.proofs.Common.{◌≡◌, ℕ, zero, suc, ◌+◌, ◌<◌, ◌≤◌, List, [], ◌∷◌, ◌++◌, length, Bool, true, false, cond, Option, refl, sym, subst, arith}
use Rattle.std.specs.Prelude.{Ok, map}
use Rattle.res_base.specs.declared.var_set.VarSet.{VarSet}
use Rattle.res_base.specs.VarSet.{in_set}
use Rattle.res_base.specs.Lists.{Each, Member}
use Rattle.res_base.proofs.ListLemmas.{each_map, each_push}
use Rattle.choice_rank.specs.declared.variable.VarShape.{VarShape}
use Rattle.choice_rank.specs.Choices.{HasSmallSizes}
use Rattle.box_split.specs.Boxes.{Run, IsBox, whole}
use Rattle.box_split.specs.Paths.{lower, upper}
use Rattle.box_split.proofs.PathLemmas.{whole_box, lower_box, upper_box}
use Rattle.search_api.specs.declared.verdict.Reason.{Reason}
use Rattle.search_api.specs.declared.verdict.Reason.TheVariants as reason
use Rattle.search_api.specs.Meaning.{Meaning, IsLawful}
use Rattle.refutation.specs.declared.node.Node.{Node}
use Rattle.refutation.specs.Trees.{Tree, BadLeaf, RankLeaf, WitnessLeaf, Fork, nodes_of, CanSplit}
use Rattle.refutation.specs.Canonical.{IsCanonical, IsCanonicalOf}
use Rattle.refutation.specs.Forms.{below_in, members, form_of, form_of_reason, HasOne, IsAscending, FitsForm, FitsBound}
use Rattle.refutation.specs.Lines.{HasMembers, HasLine, ReasonsHaveLines}
use Rattle.refutation.specs.Reading.{proof_of, IsPassedOver}
use Rattle.refutation.specs.Spelling.{lines_text, spelling}
use Rattle.refutation.proofs.AcceptLemmas.{parts}
use Rattle.refutation.proofs.AgainLemmas.{read_again}
use Rattle.refutation.proofs.FormLemmas.{append_nil}
use Rattle.refutation.proofs.TellLemmas.{in_below}
use Rattle.refutation.proofs.TreeLemmas.{lines_append, whole_tree}

-- ---- the members of a set
push : (least : ℕ) (vs : List ℕ) (v : ℕ) → IsAscending least vs → Each (λ w. w < v) vs → least ≤ v → v < 170 → IsAscending least (vs ++ v ∷ [])
push least [] v h b l m = (l, m, tt)
push least (w ∷ ws) v h b l m = (h.0, h.1, push (w + 1) ws v h.2 b.1 (omega (arith, b.0)) m)

put_below : (n : ℕ) (vs : List ℕ) (b : Bool) → Each (λ w. w < n) vs → Each (λ w. w < suc n) (vs ++ cond b (n ∷ []) [])
put_below n vs b h =
    let less : Each (λ w. w < suc n) vs = each_map (λ w. w < n) (λ w. w < suc n) vs (λ w l. omega (arith, l)) h in
    last b less
  where
    last : (b : Bool) → Each (λ w. w < suc n) vs → Each (λ w. w < suc n) (vs ++ cond b (n ∷ []) [])
    last true less = each_push (λ w. w < suc n) vs n less (omega arith)
    last false less = subst (Each (λ w. w < suc n)) (sym (append_nil vs)) less

all_below : (n : ℕ) (p : ℕ → Bool) → Each (λ w. w < n) (below_in n p)
all_below zero p = tt
all_below (suc n) p = put_below n (below_in n p) (p n) (all_below n p)

put_ascending : (n : ℕ) (vs : List ℕ) (b : Bool) → Each (λ w. w < n) vs → IsAscending 0 vs → (b ≡ true → n < 170) → IsAscending 0 (vs ++ cond b (n ∷ []) [])
put_ascending n vs true below h l = push 0 vs n h below (omega arith) (l refl)
put_ascending n vs false below h l = subst (IsAscending 0) (sym (append_nil vs)) h

ascending : (n : ℕ) (p : ℕ → Bool) → ((v : ℕ) → v < n → p v ≡ true → v < 170) → IsAscending 0 (below_in n p)
ascending zero p h = tt
ascending (suc n) p h = put_ascending n (below_in n p) (p n) (all_below n p) (ascending n p (λ v l t. h v (omega (arith, l)) t)) (λ t. h n (omega arith) t)

not_empty : (v : ℕ) (vs : List ℕ) → Member v vs → HasOne vs
not_empty v [] m = m
not_empty v (w ∷ ws) m = tt

members_fit : (vars : VarSet) → HasMembers vars → HasOne (members vars) × IsAscending 0 (members vars)
unfolding members
members_fit vars h = (not_empty h.some.0 (below_in 192 (in_set vars)) (in_below 192 (in_set vars) h.some.0 h.some.1 h.some.2), ascending 192 (in_set vars) h.variables)

reason_fits : (r : Reason) → HasLine r → FitsForm (form_of_reason r)
reason_fits (reason.Hall class vars) h = members_fit vars h
reason_fits (reason.Limit limit) h = h

-- ---- a split
split_fits : (vs : List VarShape) (box : List Run) (v k : ℕ) → IsBox vs box → HasSmallSizes vs → CanSplit v k box → (v < length vs) × (k < 512)
split_fits [] [] v k b s c = absurd c
split_fits [] (r ∷ rs) v k b s c = absurd b
split_fits (x ∷ xs) [] v k b s c = absurd b
split_fits (x ∷ xs) (r ∷ rs) zero k b s c = (omega arith, omega (arith, b.1, s.0, c.1))
split_fits (x ∷ xs) (r ∷ rs) (suc v) k b s c = let rest = split_fits xs rs v k b.2 s.1 c in (omega (arith, rest.0), rest.1)

-- ---- a tree
each_append : {X : Type 0} (P : X → Type 0) (xs ys : List X) → Each P xs → Each P ys → Each P (xs ++ ys)
each_append P [] ys h k = k
each_append P (x ∷ xs) ys h k = (h.0, each_append P xs ys h.1 k)

module _ (m : Meaning) (bound : Option ℕ) (lawful : IsLawful m) (lines : ReasonsHaveLines m) where
  tree_fits : (tree : Tree) (box : List Run) → IsBox m.shape box → IsCanonical m bound tree box → Each FitsForm (map form_of (nodes_of tree))
  tree_fits (BadLeaf r) box b c = (reason_fits r (lines r box b c.1), tt)
  tree_fits RankLeaf box b c = (tt, tt)
  tree_fits WitnessLeaf box b c = (tt, tt)
  tree_fits (Fork v k l r) box b c =
      let split = split_fits m.shape box v k b lawful.is_shape.small (parts box v k c.3).can in
      let few = lawful.is_shape.few in
      let left = tree_fits l (lower box) (lower_box m.shape box b) c.4 in
      let right = tree_fits r (upper box) (upper_box m.shape box b) c.5 in
      let both = each_append FitsForm (map form_of (nodes_of l)) (map form_of (nodes_of r)) left right in
      ((omega (arith, split.0, few), split.1), subst (Each FitsForm) (sym (lines_append (nodes_of l) (nodes_of r))) both)

  pub canonical_fits : (nodes : List Node) → IsCanonicalOf m bound nodes → Each FitsForm (map form_of nodes)
  canonical_fits nodes c = subst (λ ns. Each FitsForm (map form_of ns)) c.nodes_are (tree_fits c.tree (whole m.shape) (whole_box m.shape lawful.is_shape.positions) c.canonical)

  pub canonical_read : (nodes : List Node) (before : List (List ℕ)) → FitsBound bound → IsCanonicalOf m bound nodes → Each IsPassedOver before → proof_of (lines_text before ++ spelling bound (map form_of nodes)) ≡ Ok (bound, map form_of nodes)
  canonical_read nodes before b c p = subst (λ ns. proof_of (lines_text before ++ spelling bound (map form_of ns)) ≡ Ok (bound, map form_of ns)) c.nodes_are
      (read_again before bound (map form_of (nodes_of c.tree)) p b (tree_fits c.tree (whole m.shape) (whole_box m.shape lawful.is_shape.positions) c.canonical) (whole_tree c.tree))
