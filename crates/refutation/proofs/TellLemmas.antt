-- Nodes that have the same lines are the same.
use Rattle.std.proofs.Common.{◌≡◌, ℕ, zero, suc, ◌<◌, List, [], ◌∷◌, Bool, true, false, cond, inl, inr, refl, sym, ap, subst, ◌∙◌, arith}
use Rattle.std.specs.Prelude.{map}
use Rattle.res_base.specs.declared.var_set.VarSet.{VarSet}
use Rattle.res_base.specs.VarSet.{in_set, IsWords}
use Rattle.res_base.specs.Lists.{Each, Member}
use Rattle.res_base.proofs.ListLemmas.{member_left, member_right, member_split, member_one}
use Rattle.res_base.proofs.SumLemmas.{bool_cases, le_or}
use Rattle.res_base.proofs.VarSetLemmas.{same_set}
use Rattle.search_api.specs.declared.verdict.Class.{Class}
use Rattle.search_api.specs.declared.verdict.Reason.TheVariants as reason
use Rattle.refutation.specs.declared.node.Node.{Node}
use Rattle.refutation.specs.declared.node.Node.TheVariants as node
use Rattle.refutation.specs.Forms.{Form, SplitForm, HallForm, LimitForm, RankForm, WitnessForm, below_in, members, form_of, HasWords}

pub in_below : (n : ℕ) (p : ℕ → Bool) (x : ℕ) → x < n → p x ≡ true → Member x (below_in n p)
in_below zero p x l h = absurd (omega arith)
in_below (suc n) p x l h = elim (le_or x n) [
  | inl k ↦ member_left x (below_in n p) (cond (p n) (n ∷ []) []) (in_below n p x k h)
  | inr k ↦
      let same : x ≡ n = omega arith in
      let here : p n ≡ true = ap p (sym same) ∙ h in
      member_right x (below_in n p) (cond (p n) (n ∷ []) []) (rw here (inl same))
]

passes : (n : ℕ) (p : ℕ → Bool) (x : ℕ) → Member x (below_in n p) → p x ≡ true
passes zero p x m = absurd m
passes (suc n) p x m = elim (member_split x (below_in n p) (cond (p n) (n ∷ []) []) m) [
  | inl k ↦ passes n p x k
  | inr k ↦ last (p n) refl k
]
  where
    last : (b : Bool) → p n ≡ b → Member x (cond b (n ∷ []) []) → p x ≡ true
    last true e k = ap p (member_one x n k) ∙ e
    last false e k = absurd k

same_tests : (p q : ℕ → Bool) → below_in 192 p ≡ below_in 192 q → (x : ℕ) → x < 192 → p x ≡ q x
same_tests p q e x l = elim (bool_cases (p x)) [
  | inl t ↦ t ∙ sym (passes 192 q x (subst (Member x) e (in_below 192 p x l t)))
  | inr f ↦ elim (bool_cases (q x)) [
    | inl t ↦ let both : true ≡ false = sym (passes 192 p x (subst (Member x) (sym e) (in_below 192 q x l t))) ∙ f in cc
    | inr g ↦ f ∙ sym g
  ]
]

same_members : (s t : VarSet) → IsWords s → IsWords t → members s ≡ members t → s ≡ t
unfolding members
same_members s t hs ht e = same_set s t hs ht (same_tests (in_set s) (in_set t) e)

-- which kind of line, and what it says
class_in : Class → Form → Class
class_in other (SplitForm v k) = other
class_in other (HallForm class vs) = class
class_in other (LimitForm n) = other
class_in other RankForm = other
class_in other WitnessForm = other

variables_in : Form → List ℕ
variables_in (SplitForm v k) = []
variables_in (HallForm class vs) = vs
variables_in (LimitForm n) = []
variables_in RankForm = []
variables_in WitnessForm = []

same_hall : (c d : Class) (s t : VarSet) → IsWords s → IsWords t → HallForm c (members s) ≡ HallForm d (members t) → node.Bad (reason.Hall c s) ≡ node.Bad (reason.Hall d t)
unfolding class_in variables_in
same_hall c d s t hs ht e =
    let classes : c ≡ d = ap (class_in c) e in
    let sets : s ≡ t = same_members s t hs ht (ap variables_in e) in
    ap (λ k. node.Bad (reason.Hall k s)) classes ∙ ap (λ u. node.Bad (reason.Hall d u)) sets

same_node : (n m : Node) → HasWords n → HasWords m → form_of n ≡ form_of m → n ≡ m
same_node (node.Split v k) (node.Split w j) hn hm e = let same : SplitForm v k ≡ SplitForm w j = e in let first : v ≡ w = cc in let second : k ≡ j = cc in cc
same_node (node.Split v k) (node.Bad (reason.Hall c s)) hn hm e = let z : SplitForm v k ≡ HallForm c (members s) = e in cc
same_node (node.Split v k) (node.Bad (reason.Limit l)) hn hm e = let z : SplitForm v k ≡ LimitForm l = e in cc
same_node (node.Split v k) node.Rank hn hm e = let z : SplitForm v k ≡ RankForm = e in cc
same_node (node.Split v k) node.Witness hn hm e = let z : SplitForm v k ≡ WitnessForm = e in cc
same_node (node.Bad (reason.Hall c s)) (node.Split v k) hn hm e = let z : HallForm c (members s) ≡ SplitForm v k = e in cc
same_node (node.Bad (reason.Hall c s)) (node.Bad (reason.Hall d t)) hn hm e = same_hall c d s t hn hm e
same_node (node.Bad (reason.Hall c s)) (node.Bad (reason.Limit l)) hn hm e = let z : HallForm c (members s) ≡ LimitForm l = e in cc
same_node (node.Bad (reason.Hall c s)) node.Rank hn hm e = let z : HallForm c (members s) ≡ RankForm = e in cc
same_node (node.Bad (reason.Hall c s)) node.Witness hn hm e = let z : HallForm c (members s) ≡ WitnessForm = e in cc
same_node (node.Bad (reason.Limit l)) (node.Split v k) hn hm e = let z : LimitForm l ≡ SplitForm v k = e in cc
same_node (node.Bad (reason.Limit l)) (node.Bad (reason.Hall c s)) hn hm e = let z : LimitForm l ≡ HallForm c (members s) = e in cc
same_node (node.Bad (reason.Limit l)) (node.Bad (reason.Limit k)) hn hm e = let z : LimitForm l ≡ LimitForm k = e in let same : l ≡ k = cc in ap (λ n. node.Bad (reason.Limit n)) same
same_node (node.Bad (reason.Limit l)) node.Rank hn hm e = let z : LimitForm l ≡ RankForm = e in cc
same_node (node.Bad (reason.Limit l)) node.Witness hn hm e = let z : LimitForm l ≡ WitnessForm = e in cc
same_node node.Rank (node.Split v k) hn hm e = let z : RankForm ≡ SplitForm v k = e in cc
same_node node.Rank (node.Bad (reason.Hall c s)) hn hm e = let z : RankForm ≡ HallForm c (members s) = e in cc
same_node node.Rank (node.Bad (reason.Limit l)) hn hm e = let z : RankForm ≡ LimitForm l = e in cc
same_node node.Rank node.Rank hn hm e = refl
same_node node.Rank node.Witness hn hm e = let z : RankForm ≡ WitnessForm = e in cc
same_node node.Witness (node.Split v k) hn hm e = let z : WitnessForm ≡ SplitForm v k = e in cc
same_node node.Witness (node.Bad (reason.Hall c s)) hn hm e = let z : WitnessForm ≡ HallForm c (members s) = e in cc
same_node node.Witness (node.Bad (reason.Limit l)) hn hm e = let z : WitnessForm ≡ LimitForm l = e in cc
same_node node.Witness node.Rank hn hm e = let z : WitnessForm ≡ RankForm = e in cc
same_node node.Witness node.Witness hn hm e = refl

pub same_nodes : (ns ms : List Node) → Each HasWords ns → Each HasWords ms → map form_of ns ≡ map form_of ms → ns ≡ ms
same_nodes [] [] hn hm e = refl
same_nodes [] (m ∷ ms) hn hm e = let z : ◌≡◌ {A = List Form} [] (form_of m ∷ map form_of ms) = e in cc
same_nodes (n ∷ ns) [] hn hm e = let z : ◌≡◌ {A = List Form} (form_of n ∷ map form_of ns) [] = e in cc
same_nodes (n ∷ ns) (m ∷ ms) hn hm e =
    let z : ◌≡◌ {A = List Form} (form_of n ∷ map form_of ns) (form_of m ∷ map form_of ms) = e in
    let first : form_of n ≡ form_of m = cc in
    let rest : map form_of ns ≡ map form_of ms = cc in
    let same : n ≡ m = same_node n m hn.0 hm.0 first in
    let others : ns ≡ ms = same_nodes ns ms hn.1 hm.1 rest in
    ap (λ x. x ∷ ns) same ∙ ap (λ xs. m ∷ xs) others
