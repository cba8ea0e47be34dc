-- What is read is the spelling of what it is read as.
use Rattle.std.proofs.Common.{◌≡◌, ℕ, zero, suc, ◌+◌, ◌^◌, ◌<◌, ◌≤◌, List, [], ◌∷◌, ◌++◌, drop, length, Bool, true, false, ◌&&◌, eqb, ltb, leb, cond, inl, inr, Option, Some, None, refl, sym, ap, subst, ◌∙◌, append_assoc, arith}
use Rattle.std.specs.Prelude.{Result, Ok, Err, codes, decimal, option_and_then}
use Rattle.std.specs.List.{onto_first, starts_with, slice_split}
use Rattle.std.specs.Option.{option_map, option_map_or}
use Rattle.std.specs.Str.{bytes_eq}
use Rattle.std.specs.Str.Parse.{digits_value}
use Rattle.std.proofs.lemmas.Bool.Decides.{nat_tests, Decides-eqb}
use Rattle.std.proofs.lemmas.Slice.Eq.{bytes_eq-Decides, starts_is}
use Rattle.res_base.specs.Lists.{Each}
use Rattle.res_base.proofs.SumLemmas.{bool_cases}
use Rattle.search_api.specs.declared.verdict.Class.{Class}
use Rattle.search_api.specs.declared.verdict.Class.TheVariants as class
use Rattle.refutation.specs.declared.node.ProofFault.{ProofFault}
use Rattle.refutation.specs.declared.node.ProofFault.TheVariants as fault
use Rattle.refutation.specs.Forms.{Form, SplitForm, HallForm, LimitForm, RankForm, WitnessForm, due_after, takes_up, IsAscending, FitsForm, FitsBound}
use Rattle.refutation.specs.Spelling.{spaced, class_text, form_text, bound_text, lines_text, forms_text, spelling, Spells}
use Rattle.refutation.specs.Reading.{Line, onto_line, lines_of, line_after, is_space, fields, number_of, number_below, number_from, variables_from, split_form, hall_form, limit_form, form_of_text, bound_of_text, ended_as, is_text, with_prefix, with_bound, forms_from, bound_from, proof_from, proof_of}
use Rattle.refutation.proofs.CutLemmas.{some_field}
use Rattle.refutation.proofs.FormLemmas.{append_nil}

-- ---- answers that are there
some_map : {X Y : Type 0} (f : X → Y) (o : Option X) (y : Y) → option_map f o ≡ Some y → (x : X) × (o ≡ Some x) × (f x ≡ y)
some_map {X} {Y} f None y e = let z : ◌≡◌ {A = Option Y} None (Some y) = e in absurd cc
some_map f (Some x) y e = let z : Some (f x) ≡ Some y = e in (x, refl, cc)

some_then : {X Y : Type 0} (f : X → Option Y) (o : Option X) (y : Y) → option_and_then f o ≡ Some y → (x : X) × (o ≡ Some x) × (f x ≡ Some y)
some_then {X} {Y} f None y e = let z : ◌≡◌ {A = Option Y} None (Some y) = e in absurd cc
some_then f (Some x) y e = (x, refl, e)

some_if : {X : Type 0} (b : Bool) (x y : X) → cond b (Some x) None ≡ Some y → (b ≡ true) × (x ≡ y)
some_if true x y e = let z : Some x ≡ Some y = e in (refl, cc)
some_if {X} false x y e = let z : ◌≡◌ {A = Option X} None (Some y) = e in absurd cc

no_ok : {X E : Type 0} (err : E) (x : X) → ◌≡◌ {A = Result X E} (Err err) (Ok x) → ⊥
no_ok {X} {E} err x e = let z : ◌≡◌ {A = Result X E} (Err err) (Ok x) = e in cc

ok_or : {X Y E : Type 0} (f : X → Result Y E) (o : Option X) (err : E) (y : Y) → option_map_or f o (Err err) ≡ Ok y → (x : X) × (o ≡ Some x) × (f x ≡ Ok y)
ok_or f None err y e = absurd (no_ok err y e)
ok_or f (Some x) err y e = (x, refl, e)

both_true : (a b : Bool) → (a && b) ≡ true → (a ≡ true) × (b ≡ true)
both_true true b h = (refl, h)
both_true false b h = let z : false ≡ true = h in absurd cc

same_text : (xs ys : List ℕ) → bytes_eq xs ys ≡ true → xs ≡ ys
same_text xs ys h = (bytes_eq-Decides xs ys).0 h

begins : (xs first : List ℕ) → starts_with eqb xs first ≡ true → xs ≡ first ++ drop (length first) xs
begins xs first h = (starts_is Decides-eqb xs first (starts_with eqb xs first) refl).0 h

-- ---- numbers
number_back : (field : List ℕ) (n : ℕ) → number_of field ≡ Some n → (n < 2 ^ 64) × (field ≡ decimal n)
unfolding number_of
number_back field n e =
    let v = digits_value 10 field in
    let s = some_if (ltb v (2 ^ 64) && bytes_eq field (decimal v)) v n e in
    let b = both_true (ltb v (2 ^ 64)) (bytes_eq field (decimal v)) s.0 in
    let low : v < 2 ^ 64 = grind (arith, nat_tests, b.0) in
    (subst (λ k. k < 2 ^ 64) s.1 low, same_text field (decimal v) b.1 ∙ ap decimal s.1)

below_back : (most : ℕ) (field : List ℕ) (n : ℕ) → number_below most field ≡ Some n → (n < most) × (field ≡ decimal n)
unfolding number_below
below_back most field n e =
    let a = some_then (λ (k : ℕ). cond (ltb k most) (Some k) None) (number_of field) n e in
    let s = some_if (ltb a.0 most) a.0 n a.2 in
    let low : a.0 < most = grind (arith, nat_tests, s.0) in
    (subst (λ k. k < most) s.1 low, (number_back field a.0 a.1).1 ∙ ap decimal s.1)

from_back : (least most : ℕ) (field : List ℕ) (n : ℕ) → number_from least most field ≡ Some n → (least ≤ n) × (n < most) × (field ≡ decimal n)
unfolding number_from
from_back least most field n e =
    let a = some_then (λ (k : ℕ). cond (leb least k) (Some k) None) (number_below most field) n e in
    let s = some_if (leb least a.0) a.0 n a.2 in
    let b = below_back most field a.0 a.1 in
    let up : least ≤ a.0 = grind (arith, nat_tests, s.0) in
    (subst (λ k. least ≤ k) s.1 up, subst (λ k. k < most) s.1 b.0, b.1 ∙ ap decimal s.1)

-- ---- fields
each_spaced : List (List ℕ) → List ℕ
each_spaced [] = []
each_spaced (f ∷ fs) = 32 ∷ (f ++ each_spaced fs)

joined : List (List ℕ) → List ℕ
joined [] = []
joined (f ∷ fs) = f ++ each_spaced fs

joined_onto : (c : ℕ) (fs : List (List ℕ)) → joined (onto_first c fs) ≡ c ∷ joined fs
unfolding joined each_spaced
joined_onto c [] = refl
joined_onto c (f ∷ fs) = refl

joined_space : (f : List ℕ) (fs : List (List ℕ)) → joined ([] ∷ f ∷ fs) ≡ 32 ∷ joined (f ∷ fs)
unfolding joined each_spaced
joined_space f fs = refl

joined_split : (text : List ℕ) → joined (fields text) ≡ text
unfolding fields joined each_spaced
joined_split [] = refl
joined_split (c ∷ cs) = elim (bool_cases (eqb c 32)) [
  | inl e ↦
      let s = some_field cs in
      let space : c ≡ 32 = grind (arith, nat_tests, e) in
      let more : slice_split is_space cs ≡ s.0 ∷ s.1 = s.2 in
      rw e (ap (λ fs. joined ([] ∷ fs)) more ∙ joined_space s.0 s.1 ∙ ap (λ fs. 32 ∷ joined fs) (sym more) ∙ ap (λ xs. 32 ∷ xs) (joined_split cs) ∙ ap (λ b. b ∷ cs) (sym space))
  | inr e ↦ rw e (joined_onto c (slice_split is_space cs) ∙ ap (λ xs. c ∷ xs) (joined_split cs))
]

-- a text behind a space, by its fields
after_space : (text : List ℕ) → 32 ∷ text ≡ each_spaced (fields text)
unfolding joined each_spaced
after_space text =
    let s = some_field text in
    ap (λ xs. 32 ∷ xs) (sym (joined_split text)) ∙ ap (λ fs. 32 ∷ joined fs) s.2 ∙ sym (ap each_spaced s.2)

variables_back : (least : ℕ) (fs : List (List ℕ)) (vs : List ℕ) → variables_from least fs ≡ Some vs → IsAscending least vs × (each_spaced fs ≡ spaced vs)
unfolding each_spaced
variables_back least [] vs e =
    let z : ◌≡◌ {A = Option (List ℕ)} (Some []) (Some vs) = e in
    let none : [] ≡ vs = cc in
    subst (λ vs. IsAscending least vs × ([] ≡ spaced vs)) none (tt, refl)
variables_back least (f ∷ fs) vs e =
    let a = some_then (λ (v : ℕ). option_map (λ (vs : List ℕ). v ∷ vs) (variables_from (v + 1) fs)) (number_from least 170 f) vs e in
    let v = a.0 in
    let n = from_back least 170 f v a.1 in
    let b = some_map (λ (vs : List ℕ). v ∷ vs) (variables_from (v + 1) fs) vs a.2 in
    let rest = variables_back (v + 1) fs b.0 b.1 in
    let text : each_spaced (f ∷ fs) ≡ spaced (v ∷ b.0) = ap (λ xs. 32 ∷ (xs ++ each_spaced fs)) n.2 ∙ ap (λ xs. 32 ∷ (decimal v ++ xs)) rest.1 in
    subst (λ vs. IsAscending least vs × (each_spaced (f ∷ fs) ≡ spaced vs)) b.2 ((n.0, n.1, rest.0), text)

-- ---- the line of a node
-- it fits a line, and this is its text
abbrev Is : List ℕ → Form → Type 0
Is text f = FitsForm f × (text ≡ form_text f)

split_back : (fs : List (List ℕ)) (f : Form) → split_form fs ≡ Some f → Is (83 ∷ each_spaced fs) f
unfolding each_spaced
split_back [] f e = let z : ◌≡◌ {A = Option Form} None (Some f) = e in absurd cc
split_back (v ∷ []) f e = let z : ◌≡◌ {A = Option Form} None (Some f) = e in absurd cc
split_back (v ∷ k ∷ []) f e =
    let a = some_then (λ (variable : ℕ). option_map (SplitForm variable) (number_below 512 k)) (number_below 170 v) f e in
    let b = some_map (SplitForm a.0) (number_below 512 k) f a.2 in
    let first = below_back 170 v a.0 a.1 in
    let second = below_back 512 k b.0 b.1 in
    let text : 83 ∷ each_spaced (v ∷ k ∷ []) ≡ form_text (SplitForm a.0 b.0) =
    ap (λ xs. 83 ∷ 32 ∷ (xs ++ 32 ∷ (k ++ []))) first.1 ∙ ap (λ xs. 83 ∷ 32 ∷ (decimal a.0 ++ 32 ∷ (xs ++ []))) second.1 in
    subst (λ f. Is (83 ∷ each_spaced (v ∷ k ∷ [])) f) b.2 ((first.0, second.0), text)
split_back (v ∷ k ∷ g ∷ gs) f e = let z : ◌≡◌ {A = Option Form} None (Some f) = e in absurd cc

hall_back : (c : Class) (g : List ℕ) (gs : List (List ℕ)) (f : Form) → hall_form c (g ∷ gs) ≡ Some f → Is (class_text c ++ each_spaced (g ∷ gs)) f
unfolding hall_form each_spaced
hall_back c g gs f e =
    let a = some_map (HallForm c) (variables_from 0 (g ∷ gs)) f e in
    let b = variables_back 0 (g ∷ gs) a.0 a.1 in
    subst (λ f. Is (class_text c ++ each_spaced (g ∷ gs)) f) a.2 (not_empty a.0 b.1 b.0, ap (λ xs. class_text c ++ xs) b.1)
  where
    not_empty : (vs : List ℕ) → each_spaced (g ∷ gs) ≡ spaced vs → IsAscending 0 vs → FitsForm (HallForm c vs)
    not_empty [] s h = let z : ◌≡◌ {A = List ℕ} (32 ∷ (g ++ each_spaced gs)) [] = s in absurd cc
    not_empty (v ∷ vs) s h = (tt, h)

limit_back : (field : List ℕ) (f : Form) → limit_form field ≡ Some f → Is (76 ∷ 32 ∷ field) f
unfolding limit_form
limit_back field f e =
    let a = some_map LimitForm (number_from 3 18 field) f e in
    let n = from_back 3 18 field a.0 a.1 in
    let most : a.0 ≤ 17 = omega (arith, n.1) in
    let text : 76 ∷ 32 ∷ field ≡ form_text (LimitForm a.0) = ap (λ xs. 76 ∷ 32 ∷ xs) (n.2 ∙ sym (append_nil (decimal a.0))) in
    subst (λ f. Is (76 ∷ 32 ∷ field) f) a.2 ((n.0, most), text)

-- the variables of a Hall set stand behind this, and a space
hall_text : (c : Class) (head text : List ℕ) (f : Form) → head ≡ class_text c ++ 32 ∷ [] → hall_form c (fields text) ≡ Some f → Is (head ++ text) f
hall_text c head text f is e =
    let s = some_field text in
    let read = ap (hall_form c) (sym s.2) ∙ e in
    let whole : head ++ text ≡ class_text c ++ each_spaced (s.0 ∷ s.1) =
    ap (λ xs. xs ++ text) is ∙ append_assoc (class_text c) (32 ∷ []) text ∙ ap (λ xs. class_text c ++ xs) (after_space text ∙ ap each_spaced s.2) in
    subst (λ xs. Is xs f) (sym whole) (hall_back c s.0 s.1 f read)

form_back : (text : List ℕ) (f : Form) → form_of_text text ≡ Some f → Is text f
unfolding form_of_text
form_back text f e = elim (bool_cases (bytes_eq text (codes "R"))) [
  | inl t ↦ let z : Some RankForm ≡ Some f = rw t at e in let is : RankForm ≡ f = cc in subst (λ f. Is text f) is (tt, same_text text (codes "R") t)
  | inr t ↦ not_rank (rw t at e)
]
  where
    exti : cond (starts_with eqb text (codes "H exti ")) (hall_form class.Exti (fields (drop 7 text))) None ≡ Some f → Is text f
    exti e = elim (bool_cases (starts_with eqb text (codes "H exti "))) [
      | inl t ↦ subst (λ xs. Is xs f) (sym (begins text (codes "H exti ") t)) (hall_text class.Exti (codes "H exti ") (drop 7 text) f refl (rw t at e))
      | inr t ↦ let z : ◌≡◌ {A = Option Form} None (Some f) = rw t at e in absurd cc
    ]

    pins : cond (starts_with eqb text (codes "H pins ")) (hall_form class.Pins (fields (drop 7 text))) (cond (starts_with eqb text (codes "H exti ")) (hall_form class.Exti (fields (drop 7 text))) None) ≡ Some f → Is text f
    pins e = elim (bool_cases (starts_with eqb text (codes "H pins "))) [
      | inl t ↦ subst (λ xs. Is xs f) (sym (begins text (codes "H pins ") t)) (hall_text class.Pins (codes "H pins ") (drop 7 text) f refl (rw t at e))
      | inr t ↦ exti (rw t at e)
    ]

    limit : cond (starts_with eqb text (codes "L ")) (limit_form (drop 2 text)) (cond (starts_with eqb text (codes "H pins ")) (hall_form class.Pins (fields (drop 7 text))) (cond (starts_with eqb text (codes "H exti ")) (hall_form class.Exti (fields (drop 7 text))) None)) ≡ Some f → Is text f
    limit e = elim (bool_cases (starts_with eqb text (codes "L "))) [
      | inl t ↦ subst (λ xs. Is xs f) (sym (begins text (codes "L ") t)) (limit_back (drop 2 text) f (rw t at e))
      | inr t ↦ pins (rw t at e)
    ]

    split : cond (starts_with eqb text (codes "S ")) (split_form (fields (drop 2 text))) (cond (starts_with eqb text (codes "L ")) (limit_form (drop 2 text)) (cond (starts_with eqb text (codes "H pins ")) (hall_form class.Pins (fields (drop 7 text))) (cond (starts_with eqb text (codes "H exti ")) (hall_form class.Exti (fields (drop 7 text))) None))) ≡ Some f → Is text f
    split e = elim (bool_cases (starts_with eqb text (codes "S "))) [
      | inl t ↦
          let whole : text ≡ 83 ∷ each_spaced (fields (drop 2 text)) = begins text (codes "S ") t ∙ ap (λ xs. 83 ∷ xs) (after_space (drop 2 text)) in
          subst (λ xs. Is xs f) (sym whole) (split_back (fields (drop 2 text)) f (rw t at e))
      | inr t ↦ limit (rw t at e)
    ]

    not_rank : cond (bytes_eq text (codes "W")) (Some WitnessForm) (cond (starts_with eqb text (codes "S ")) (split_form (fields (drop 2 text))) (cond (starts_with eqb text (codes "L ")) (limit_form (drop 2 text)) (cond (starts_with eqb text (codes "H pins ")) (hall_form class.Pins (fields (drop 7 text))) (cond (starts_with eqb text (codes "H exti ")) (hall_form class.Exti (fields (drop 7 text))) None)))) ≡ Some f → Is text f
    not_rank e = elim (bool_cases (bytes_eq text (codes "W"))) [
      | inl t ↦ let z : Some WitnessForm ≡ Some f = rw t at e in let is : WitnessForm ≡ f = cc in subst (λ f. Is text f) is (tt, same_text text (codes "W") t)
      | inr t ↦ split (rw t at e)
    ]

-- ---- the bound
bound_back : (text : List ℕ) (bound : Option ℕ) → bound_of_text text ≡ Some bound → FitsBound bound × (text ≡ bound_text bound)
unfolding bound_of_text
bound_back text bound e = elim (bool_cases (bytes_eq text (codes "bound none"))) [
  | inl t ↦
      let z : Some None ≡ Some bound = rw t at e in
      let is : None ≡ bound = cc in
      subst (λ b. FitsBound b × (text ≡ bound_text b)) is (tt, same_text text (codes "bound none") t)
  | inr t ↦ stated (rw t at e)
]
  where
    stated : cond (starts_with eqb text (codes "bound ")) (option_map (λ (k : ℕ). Some k) (number_below (2 ^ 63) (drop 6 text))) None ≡ Some bound → FitsBound bound × (text ≡ bound_text bound)
    stated e = elim (bool_cases (starts_with eqb text (codes "bound "))) [
      | inl t ↦
          let a = some_map (λ (k : ℕ). Some k) (number_below (2 ^ 63) (drop 6 text)) bound (rw t at e) in
          let n = below_back (2 ^ 63) (drop 6 text) a.0 a.1 in
          subst (λ b. FitsBound b × (text ≡ bound_text b)) a.2 (n.0, begins text (codes "bound ") t ∙ ap (λ xs. codes "bound " ++ xs) n.1)
      | inr t ↦ let z : ◌≡◌ {A = Option (Option ℕ)} None (Some bound) = rw t at e in absurd cc
    ]

-- ---- lines
abbrev IsClean : List ℕ → Type 0
IsClean line = Each (λ (c : ℕ). eqb c 10 ≡ false) line

-- the first line has an end, and these lines follow it
pub record FirstLine (text : List ℕ) (l : Line) (ls : List Line) : Type 0 where
  rest : List ℕ
  text_is : text ≡ l.text ++ 10 ∷ rest
  clean : IsClean l.text
  rest_is : lines_of rest ≡ ls

first_line : (text : List ℕ) (l : Line) (ls : List Line) → lines_of text ≡ l ∷ ls → l.ended ≡ true → FirstLine text l ls
first_line [] l ls e t = let z : ◌≡◌ {A = List Line} [] (l ∷ ls) = e in absurd cc
first_line (c ∷ cs) l ls e t = elim (bool_cases (eqb c 10)) [
  | inl h ↦
      let empty : Line = record { text = []; ended = true } in
      let z : empty ∷ lines_of cs ≡ l ∷ ls = rw h at e in
      let same : empty ≡ l = cc in
      let rest : lines_of cs ≡ ls = cc in
      let end : c ≡ 10 = grind (arith, nat_tests, h) in
      subst (λ l. FirstLine (c ∷ cs) l ls) same record { rest = cs; text_is = ap (λ b. b ∷ cs) end; clean = tt; rest_is = rest }
  | inr h ↦ onto h (λ m ms f u. first_line cs m ms f u) (lines_of cs) refl (rw h at e)
]
  where
    onto : eqb c 10 ≡ false → ((m : Line) (ms : List Line) → lines_of cs ≡ m ∷ ms → m.ended ≡ true → FirstLine cs m ms) → (ms : List Line) → lines_of cs ≡ ms → onto_line c ms ≡ l ∷ ls → FirstLine (c ∷ cs) l ls
    onto h before [] is s =
        let one : Line = record { text = c ∷ []; ended = false } in
        let z : one ∷ [] ≡ l ∷ ls = s in
        let same : one ≡ l = cc in
        let u : false ≡ true = ap (λ (l : Line). l.ended) same ∙ t in
        absurd cc
    onto h before (m ∷ ms) is s =
        let longer : Line = record { text = c ∷ m.text; ended = m.ended } in
        let z : longer ∷ ms ≡ l ∷ ls = s in
        let same : longer ≡ l = cc in
        let others : ms ≡ ls = cc in
        let r = before m ms is (ap (λ (l : Line). l.ended) same ∙ t) in
        subst (λ l. FirstLine (c ∷ cs) l ls) same record { rest = r.rest; text_is = ap (λ xs. c ∷ xs) r.text_is; clean = (h, r.clean); rest_is = r.rest_is ∙ others }

-- no line follows one that has no end
last_line : (text : List ℕ) (l : Line) (ls : List Line) → lines_of text ≡ l ∷ ls → l.ended ≡ false → ls ≡ []
last_line [] l ls e t = let z : ◌≡◌ {A = List Line} [] (l ∷ ls) = e in absurd cc
last_line (c ∷ cs) l ls e t = elim (bool_cases (eqb c 10)) [
  | inl h ↦
      let empty : Line = record { text = []; ended = true } in
      let z : empty ∷ lines_of cs ≡ l ∷ ls = rw h at e in
      let same : empty ≡ l = cc in
      let u : true ≡ false = ap (λ (l : Line). l.ended) same ∙ t in
      absurd cc
  | inr h ↦ onto (λ m ms f u. last_line cs m ms f u) (lines_of cs) refl (rw h at e)
]
  where
    onto : ((m : Line) (ms : List Line) → lines_of cs ≡ m ∷ ms → m.ended ≡ false → ms ≡ []) → (ms : List Line) → lines_of cs ≡ ms → onto_line c ms ≡ l ∷ ls → ls ≡ []
    onto before [] is s =
        let one : Line = record { text = c ∷ []; ended = false } in
        let z : one ∷ [] ≡ l ∷ ls = s in
        cc
    onto before (m ∷ ms) is s =
        let longer : Line = record { text = c ∷ m.text; ended = m.ended } in
        let z : longer ∷ ms ≡ l ∷ ls = s in
        let same : longer ≡ l = cc in
        let others : ms ≡ ls = cc in
        sym others ∙ before m ms is (ap (λ (l : Line). l.ended) same ∙ t)

-- a text without lines is empty
no_lines : (text : List ℕ) → lines_of text ≡ [] → text ≡ []
no_lines [] e = refl
no_lines (c ∷ cs) e = elim (bool_cases (eqb c 10)) [
  | inl h ↦
      let empty : Line = record { text = []; ended = true } in
      let z : ◌≡◌ {A = List Line} (empty ∷ lines_of cs) [] = rw h at e in
      absurd cc
  | inr h ↦ onto (lines_of cs) (rw h at e)
]
  where
    onto : (ms : List Line) → onto_line c ms ≡ [] → (c ∷ cs) ≡ []
    onto [] s =
        let one : Line = record { text = c ∷ []; ended = false } in
        let z : ◌≡◌ {A = List Line} (one ∷ []) [] = s in
        absurd cc
    onto (m ∷ ms) s =
        let longer : Line = record { text = c ∷ m.text; ended = m.ended } in
        let z : ◌≡◌ {A = List Line} (longer ∷ ms) [] = s in
        absurd cc

ended_back : {X : Type 0} (read : List ℕ → Option X) (l : Line) (x : X) → ended_as read l ≡ Some x → (l.ended ≡ true) × (read l.text ≡ Some x)
ended_back {X} read l x e = elim (bool_cases l.ended) [
  | inl t ↦ (t, rw t at e)
  | inr t ↦ let z : ◌≡◌ {A = Option X} None (Some x) = rw t at e in absurd cc
]

-- ---- the nodes
last_text : List ℕ
last_text = codes "end" ++ 10 ∷ []

pub record SpellsForms (text : List ℕ) (due : ℕ) (forms : List Form) : Type 0 where
  text_is : text ≡ forms_text forms ++ last_text
  fit : Each FitsForm forms
  whole : takes_up due forms ≡ true

prefix_back : (prefix : List Form) (read : Result (List Form) ProofFault) (forms : List Form) → with_prefix prefix read ≡ Ok forms → (rest : List Form) × (read ≡ Ok rest) × (prefix ++ rest ≡ forms)
prefix_back prefix (Err e) forms h = absurd (no_ok e forms h)
prefix_back prefix (Ok rest) forms h = let z : ◌≡◌ {A = Result (List Form) ProofFault} (Ok (prefix ++ rest)) (Ok forms) = h in (rest, refl, cc)

end_back : (text : List ℕ) (l : Line) (b : Bool) → lines_of text ≡ l ∷ [] → (l.ended && is_text (codes "end") l) ≡ true → text ≡ last_text
unfolding last_text
end_back text l b e t =
    let both = both_true l.ended (is_text (codes "end") l) t in
    let r = first_line text l [] e both.0 in
    r.text_is ∙ ap (λ xs. xs ++ 10 ∷ r.rest) (same_text l.text (codes "end") both.1) ∙ ap (λ xs. codes "end" ++ 10 ∷ xs) (no_lines r.rest r.rest_is)

forms_back : (ls : List Line) (text : List ℕ) (number due : ℕ) (forms : List Form) → lines_of text ≡ ls → forms_from number due ls ≡ Ok forms → SpellsForms text due forms
forms_back [] text number due forms is e = absurd (no_ok (fault.Line number) forms e)
forms_back (l ∷ []) text number zero forms is e = elim (bool_cases (l.ended && is_text (codes "end") l)) [
  | inl t ↦
      let z : ◌≡◌ {A = Result (List Form) ProofFault} (Ok []) (Ok forms) = rw t at e in
      let none : [] ≡ forms = cc in
      subst (λ fs. SpellsForms text 0 fs) none record { text_is = end_back text l true is t; fit = tt; whole = refl }
  | inr t ↦ absurd (no_ok (fault.Line number) forms (rw t at e))
]
forms_back (l ∷ m ∷ ls) text number zero forms is e = elim (bool_cases (l.ended && is_text (codes "end") l)) [
  | inl t ↦ absurd (no_ok (fault.Line (line_after number)) forms (rw t at e))
  | inr t ↦ absurd (no_ok (fault.Line number) forms (rw t at e))
]
forms_back (l ∷ ls) text number (suc due) forms is e =
    let a = ok_or (λ f. with_prefix (f ∷ []) (forms_from (line_after number) (due_after (suc due) f) ls)) (ended_as form_of_text l) (fault.Line number) forms e in
    let f = a.0 in
    let line = ended_back form_of_text l f a.1 in
    let node = form_back l.text f line.1 in
    let b = prefix_back (f ∷ []) (forms_from (line_after number) (due_after (suc due) f) ls) forms a.2 in
    let r = first_line text l ls is line.0 in
    let rest = forms_back ls r.rest (line_after number) (due_after (suc due) f) b.0 r.rest_is b.1 in
    let some : ltb 0 (suc due) ≡ true = grind (arith, nat_tests) in
    let whole : text ≡ forms_text (f ∷ b.0) ++ last_text =
    r.text_is ∙ ap (λ xs. xs ++ 10 ∷ r.rest) node.1 ∙ ap (λ xs. form_text f ++ 10 ∷ xs) rest.text_is ∙ sym (append_assoc (form_text f) (10 ∷ forms_text b.0) last_text) in
    subst (λ fs. SpellsForms text (suc due) fs) b.2 record { text_is = whole; fit = (node.0, rest.fit); whole = rw some rest.whole }

-- ---- the proof
bound_from_back : (bound : Option ℕ) (read : Result (List Form) ProofFault) (other : Option ℕ) (forms : List Form) → with_bound bound read ≡ Ok (other, forms) → (read ≡ Ok forms) × (bound ≡ other)
bound_from_back bound (Err e) other forms h = absurd (no_ok e (other, forms) h)
bound_from_back bound (Ok fs) other forms h =
    let z : ◌≡◌ {A = Result (Option ℕ × List Form) ProofFault} (Ok (bound, fs)) (Ok (other, forms)) = h in
    let pair : ◌≡◌ {A = Option ℕ × List Form} (bound, fs) (other, forms) = cc in
    (ap (λ (x : Option ℕ × List Form). Ok x.1) pair, ap (λ (x : Option ℕ × List Form). x.0) pair)

headed : (text : List ℕ) (l : Line) (ls : List Line) (number : ℕ) (bound : Option ℕ) (forms : List Form) → lines_of text ≡ l ∷ ls → is_text (codes "proof 1") l ≡ true → l.ended ≡ true → bound_from number ls ≡ Ok (bound, forms) → Spells text bound forms
unfolding spelling last_text
headed text l [] number bound forms is head end e = absurd (no_ok (fault.Line number) (bound, forms) e)
headed text l (m ∷ ms) number bound forms is head end e =
    let a = ok_or (λ bound. with_bound bound (forms_from (line_after number) 1 ms)) (ended_as bound_of_text m) (fault.Line number) (bound, forms) e in
    let line = ended_back bound_of_text m a.0 a.1 in
    let said = bound_back m.text a.0 line.1 in
    let b = bound_from_back a.0 (forms_from (line_after number) 1 ms) bound forms a.2 in
    let first = first_line text l (m ∷ ms) is end in
    let second = first_line first.rest m ms first.rest_is line.0 in
    let nodes = forms_back ms second.rest (line_after number) 1 forms second.rest_is b.0 in
    let whole : text ≡ spelling bound forms =
    first.text_is ∙ ap (λ xs. xs ++ 10 ∷ first.rest) (same_text l.text (codes "proof 1") head) ∙ ap (λ xs. codes "proof 1" ++ 10 ∷ xs) second.text_is
    ∙ ap (λ xs. codes "proof 1" ++ 10 ∷ (xs ++ 10 ∷ second.rest)) (said.1 ∙ ap bound_text b.1) ∙ ap (λ xs. codes "proof 1" ++ 10 ∷ (bound_text bound ++ 10 ∷ xs)) nodes.text_is in
    record { before = []; passed = tt; text_is = whole; bound_fits = subst FitsBound b.1 said.0; forms_fit = nodes.fit; one_tree = nodes.whole }

proof_back : (ls : List Line) (text : List ℕ) (number : ℕ) (bound : Option ℕ) (forms : List Form) → lines_of text ≡ ls → proof_from number ls ≡ Ok (bound, forms) → Spells text bound forms
proof_back [] text number bound forms is e = absurd (no_ok (fault.Line number) (bound, forms) e)
proof_back (l ∷ ls) text number bound forms is e = elim (bool_cases (is_text (codes "proof 1") l)) [
  | inl head ↦ elim (bool_cases l.ended) [
    | inl end ↦ headed text l ls (line_after number) bound forms is head end (rw (head, end) at e)
    | inr end ↦ absurd (no_ok (fault.Line number) (bound, forms) (rw (head, end) at e))
  ]
  | inr other ↦ elim (bool_cases l.ended) [
    | inl end ↦
        let first = first_line text l ls is end in
        let rest = proof_back ls first.rest (line_after number) bound forms first.rest_is (rw other at e) in
        let whole : text ≡ lines_text (l.text ∷ rest.before) ++ spelling bound forms =
        first.text_is ∙ ap (λ xs. l.text ++ 10 ∷ xs) rest.text_is ∙ sym (append_assoc l.text (10 ∷ lines_text rest.before) (spelling bound forms)) in
        record { before = l.text ∷ rest.before; passed = ((first.clean, other), rest.passed); text_is = whole; bound_fits = rest.bound_fits; forms_fit = rest.forms_fit; one_tree = rest.one_tree }
    | inr end ↦
        let none : ls ≡ [] = last_line text l ls is end in
        let z : proof_from (line_after number) ls ≡ Ok (bound, forms) = rw other at e in
        absurd (no_ok (fault.Line (line_after number)) (bound, forms) (sym (ap (proof_from (line_after number)) none) ∙ z))
  ]
]

pub read_back : (text : List ℕ) (bound : Option ℕ) (forms : List Form) → proof_of text ≡ Ok (bound, forms) → Spells text bound forms
unfolding proof_of
read_back text bound forms e = proof_back (lines_of text) text 1 bound forms refl e
