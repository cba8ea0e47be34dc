-- The members of a set in ascending order, and the lines of nodes.
use Rattle.std.proofs.Common.{◌≡◌, ℕ, zero, suc, ◌+◌, ◌<◌, ◌≤◌, List, [], ◌∷◌, ◌++◌, Bool, true, false, cond, eqb, Option, Some, None, ◌⊎◌, inl, inr, refl, sym, ap, ◌∙◌, append_assoc, arith}
use Rattle.std.specs.Prelude.{decimal, map, option_and_then}
use Rattle.std.specs.Option.{option_map}
use Rattle.std.proofs.lemmas.Bool.Decides.{nat_tests}
use Rattle.res_base.specs.declared.var_set.VarSet.{VarSet}
use Rattle.res_base.specs.VarSet.{in_set, NoneFrom}
use Rattle.refutation.specs.declared.node.Node.{Node}
use Rattle.refutation.specs.Forms.{below_in, form_of, Joins}
use Rattle.refutation.specs.Reading.{number_from, variables_from}
use Rattle.refutation.specs.Spelling.{spaced, form_text, forms_text}

pub append_nil : {X : Type 0} (xs : List X) → xs ++ [] ≡ xs
append_nil [] = refl
append_nil (x ∷ xs) = ap (λ ys. x ∷ ys) (append_nil xs)

same_or_less : (a b : ℕ) → a ≤ b → (a ≡ b) ⊎ (a < b)
same_or_less a b h = grind arith

-- tests that agree below n have the same numbers there
below_same : (n : ℕ) (p q : ℕ → Bool) → ((x : ℕ) → x < n → q x ≡ p x) → below_in n q ≡ below_in n p
below_same zero p q h = refl
below_same (suc n) p q h =
    let e : q n ≡ p n = h n (omega arith) in
    ap (λ xs. xs ++ cond (q n) (n ∷ []) []) (below_same n p q (λ x l. h x (omega arith))) ∙ ap (λ b. below_in n p ++ cond b (n ∷ []) []) e

-- where none passes from a number on, none is added
pub below_none : (n : ℕ) (p : ℕ → Bool) (from : ℕ) → from ≤ n → ((x : ℕ) → from ≤ x → x < n → p x ≡ false) → below_in n p ≡ below_in from p
below_none zero p from l h = let e : from ≡ 0 = omega arith in rw e refl
below_none (suc n) p from l h = elim (same_or_less from (suc n) l) [
  | inl e ↦ rw e refl
  | inr k ↦
      let none : p n ≡ false = h n (omega arith) (omega arith) in
      ap (λ b. below_in n p ++ cond b (n ∷ []) []) none ∙ append_nil (below_in n p) ∙ below_none n p from (omega arith) (λ x a b. h x a (omega arith))
]

-- the next number that passes is added
pub below_next : (p q : ℕ → Bool) (from v : ℕ) → from ≤ v → ((x : ℕ) → x < from → q x ≡ p x) → ((x : ℕ) → from ≤ x → x < v → q x ≡ false) → q v ≡ true → below_in (v + 1) q ≡ below_in from p ++ v ∷ []
below_next p q from v l same none here =
    let one : v + 1 ≡ suc v = omega arith in
    ap (λ n. below_in n q) one ∙ ap (λ b. below_in v q ++ cond b (v ∷ []) []) here
    ∙ ap (λ xs. xs ++ v ∷ []) (below_none v q from l none ∙ below_same from p q same)

pub spaced_push : (vs : List ℕ) (v : ℕ) → spaced (vs ++ v ∷ []) ≡ spaced vs ++ 32 ∷ decimal v
spaced_push [] v = ap (λ xs. 32 ∷ xs) (append_nil (decimal v))
spaced_push (w ∷ vs) v = ap (λ xs. 32 ∷ (decimal w ++ xs)) (spaced_push vs v) ∙ ap (λ xs. 32 ∷ xs) (sym (append_assoc (decimal w) (spaced vs) (32 ∷ decimal v)))

pub forms_push : (ns : List Node) (n : Node) → forms_text (map form_of (ns ++ n ∷ [])) ≡ forms_text (map form_of ns) ++ form_text (form_of n) ++ 10 ∷ []
forms_push [] n = refl
forms_push (m ∷ ns) n =
    let prefix = form_text (form_of m) in
    let rest = forms_text (map form_of ns) in
    ap (λ xs. prefix ++ 10 ∷ xs) (forms_push ns n) ∙ sym (append_assoc prefix (10 ∷ (rest ++ form_text (form_of n))) (10 ∷ []))
    ∙ ap (λ xs. xs ++ 10 ∷ []) (sym (append_assoc prefix (10 ∷ rest) (form_text (form_of n))))

-- the parts of a text, put one behind the other
pub parts_in_order : (first bound forms last : List ℕ) → ((((first ++ bound) ++ 10 ∷ []) ++ forms) ++ last) ++ 10 ∷ [] ≡ first ++ (bound ++ 10 ∷ (forms ++ (last ++ 10 ∷ [])))
parts_in_order first bound forms last =
    append_assoc (((first ++ bound) ++ 10 ∷ []) ++ forms) last (10 ∷ []) ∙ append_assoc ((first ++ bound) ++ 10 ∷ []) forms (last ++ 10 ∷ [])
    ∙ append_assoc (first ++ bound) (10 ∷ []) (forms ++ (last ++ 10 ∷ [])) ∙ append_assoc first bound (10 ∷ (forms ++ (last ++ 10 ∷ [])))

-- a variable that is put in, above all that are in
pub joins : (old new : VarSet) (least v : ℕ) → least ≤ v → v < 192 → NoneFrom (in_set old) least → ((w : ℕ) → in_set new w ≡ cond (eqb w v) true (in_set old w)) → Joins old new least v
joins old new least v l h none put =
    let other : (w : ℕ) → (w ≡ v → ⊥) → in_set new w ≡ in_set old w = λ w ne.
    let e : eqb w v ≡ false = grind (arith, nat_tests, ne) in put w ∙ ap (λ b. cond b true (in_set old w)) e in
    let same : eqb v v ≡ true = grind (arith, nat_tests) in
    record {
      members_are = below_next (in_set old) (in_set new) least v l (λ x k. other x (λ e. omega arith)) (λ x a k. other x (λ e. omega arith) ∙ none x a (omega arith)) (put v ∙ ap (λ b. cond b true (in_set old v)) same);
      greatest = λ x a k. other x (λ e. omega arith) ∙ none x (omega arith) k;
    }

-- one variable more is read
pub next_read : (least v : ℕ) (f : List ℕ) (fs : List (List ℕ)) (before : List ℕ) → number_from least 170 f ≡ Some v → option_map (λ vs. before ++ vs) (variables_from least (f ∷ fs)) ≡ option_map (λ vs. (before ++ v ∷ []) ++ vs) (variables_from (v + 1) fs)
next_read least v f fs before e =
    ap (λ (o : Option ℕ). option_map (λ vs. before ++ vs) (option_and_then (λ v. option_map (λ vs. v ∷ vs) (variables_from (v + 1) fs)) o)) e ∙ onto (variables_from (v + 1) fs)
  where
    onto : (o : Option (List ℕ)) → option_map (λ vs. before ++ vs) (option_map (λ vs. v ∷ vs) o) ≡ option_map (λ vs. (before ++ v ∷ []) ++ vs) o
    onto None = refl
    onto (Some vs) = ap Some (sym (append_assoc before (v ∷ []) vs))

-- or none is
pub none_read : (least : ℕ) (f : List ℕ) (fs : List (List ℕ)) (before : List ℕ) → number_from least 170 f ≡ None → option_map (λ vs. before ++ vs) (variables_from least (f ∷ fs)) ≡ None
none_read least f fs before e = ap (λ (o : Option ℕ). option_map (λ vs. before ++ vs) (option_and_then (λ v. option_map (λ vs. v ∷ vs) (variables_from (v + 1) fs)) o)) e
