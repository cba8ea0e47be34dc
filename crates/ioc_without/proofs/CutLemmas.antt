-- A text that is cut where a line begins.
use Rattle.std.proofs.Common.{◌≡◌, ℕ, suc, ◌-◌, ◌≤◌, List, [], ◌∷◌, ◌++◌, length, take, get_or, Bool, true, false, eqb, cond, map, refl, sym, ap, ◌∙◌, inl, inr, append_assoc, arith}
use Rattle.std.specs.List.{slice_split, onto_first}
use Rattle.std.specs.Str.Lines.{lines, lines_of_parts, strip_carriage_return}
use Rattle.std.proofs.lemmas.Bool.Decides.{nat_tests}
use Rattle.std.proofs.lemmas.List.Splits.{slice_split-cons_yes, slice_split-cons_no}
use Rattle.res_base.proofs.SumLemmas.{bool_cases}

pub some_part : (p : ℕ → Bool) (xs : List ℕ) → (part : List ℕ) × (parts : List (List ℕ)) × (slice_split p xs ≡ part ∷ parts)
some_part p [] = ([], [], refl)
some_part p (x ∷ xs) =
    let r = some_part p xs in
    elim (bool_cases (p x)) [ inl e ↦ ([], slice_split p xs, rw e refl) | inr e ↦ (x ∷ r.0, r.1, rw (e, r.2) refl) ]

-- a cut at an element that passes
pub split_cut : (p : ℕ → Bool) (f r : List ℕ) (x : ℕ) → p x ≡ true → slice_split p (f ++ x ∷ r) ≡ slice_split p f ++ slice_split p r
split_cut p [] r x e = slice_split-cons_yes p x r e
split_cut p (y ∷ f) r x e =
    let h = some_part p f in
    elim (bool_cases (p y)) [ inl t ↦ rw (t, split_cut p f r x e) refl | inr t ↦ rw (t, split_cut p f r x e, h.2) refl ]

parts_cut : (ps qs : List (List ℕ)) (q : List ℕ) (more : List (List ℕ)) → qs ≡ q ∷ more → lines_of_parts (ps ++ qs) ≡ map strip_carriage_return ps ++ lines_of_parts qs
parts_cut [] qs q more e = refl
parts_cut (p ∷ []) qs q more e = rw e refl
parts_cut (p ∷ y ∷ ps) qs q more e = ap (λ (l : List (List ℕ)). strip_carriage_return p ∷ l) (parts_cut (y ∷ ps) qs q more e)

-- the lines that end before a cut
abbrev pub lines_before : List ℕ → List (List ℕ)
lines_before f = map strip_carriage_return (slice_split (λ b. eqb b 10) f)

pub lines_cut : (f rest : List ℕ) → lines ((f ++ 10 ∷ []) ++ rest) ≡ lines_before f ++ lines rest
lines_cut f rest =
    let h = some_part (λ b. eqb b 10) rest in
    ap lines (append_assoc f (10 ∷ []) rest)
    ∙ ap lines_of_parts (split_cut (λ b. eqb b 10) f rest 10 refl)
    ∙ parts_cut (slice_split (λ b. eqb b 10) f) (slice_split (λ b. eqb b 10) rest) h.0 h.1 h.2

-- where the last byte of a line stands
strip_at : (l : List ℕ) (n : ℕ) → length l - 1 ≡ n → strip_carriage_return l ≡ cond (eqb (get_or l n 0) 13) (take n l) l
strip_at l n e = ap (λ (k : ℕ). cond (eqb (get_or l k 0) 13) (take k l) l) e

-- ---- the first line of a text that does not begin with its end
pub record First (x y : ℕ) (more : List ℕ) : Type 0 where
  pub line : List ℕ
  pub other : List ℕ
  pub tail : List (List ℕ)
  pub is : lines (x ∷ more) ≡ line ∷ tail
  pub becomes : lines (y ∷ more) ≡ other ∷ tail
  pub as_long : (m : ℕ) → 1 ≤ m → length line ≤ m → length other ≤ m
  pub begins : (rest : List ℕ) × (other ≡ y ∷ rest)

strip_one : (y : ℕ) → eqb y 13 ≡ false → strip_carriage_return (y ∷ []) ≡ y ∷ []
strip_one y e = strip_at (y ∷ []) 0 refl ∙ ap (λ (t : Bool). cond t [] (y ∷ [])) e

one_on : (x : ℕ) (n : ℕ) (l : List ℕ) (t : Bool) → cond t (x ∷ take n l) (x ∷ l) ≡ x ∷ cond t (take n l) l
one_on x n l true = refl
one_on x n l false = refl

strip_more : (x b : ℕ) (bs : List ℕ) → strip_carriage_return (x ∷ b ∷ bs) ≡ x ∷ strip_carriage_return (b ∷ bs)
strip_more x b bs =
    strip_at (x ∷ b ∷ bs) (suc (length bs)) (omega arith)
    ∙ one_on x (length bs) (b ∷ bs) (eqb (get_or (b ∷ bs) (length bs) 0) 13)
    ∙ sym (ap (λ (l : List ℕ). x ∷ l) (strip_at (b ∷ bs) (length bs) (omega arith)))

split_is : (x : ℕ) (more part : List ℕ) (parts : List (List ℕ)) → eqb x 10 ≡ false → slice_split (λ b. eqb b 10) more ≡ part ∷ parts
    → slice_split (λ b. eqb b 10) (x ∷ more) ≡ (x ∷ part) ∷ parts
split_is x more part parts e s = slice_split-cons_no (λ b. eqb b 10) x more e ∙ ap (onto_first x) s

alone : (x : ℕ) (part : List ℕ) → lines_of_parts ((x ∷ part) ∷ []) ≡ (x ∷ part) ∷ []
alone x part = let full : eqb (suc (length part)) 0 ≡ false = grind (arith, nat_tests) in rw full refl

first_by : (x y : ℕ) (more part : List ℕ) (parts : List (List ℕ)) → eqb x 10 ≡ false → eqb y 10 ≡ false → eqb y 13 ≡ false → slice_split (λ b. eqb b 10) more ≡ part ∷ parts → First x y more
first_by x y more part [] e f g s = record {
  line = x ∷ part;
  other = y ∷ part;
  tail = [];
  is = ap lines_of_parts (split_is x more part [] e s) ∙ alone x part;
  becomes = ap lines_of_parts (split_is y more part [] f s) ∙ alone y part;
  as_long = λ m some l. l;
  begins = (part, refl);
}
first_by x y more [] (q ∷ qs) e f g s = record {
  line = strip_carriage_return (x ∷ []);
  other = y ∷ [];
  tail = lines_of_parts (q ∷ qs);
  is = ap lines_of_parts (split_is x more [] (q ∷ qs) e s);
  becomes = ap lines_of_parts (split_is y more [] (q ∷ qs) f s) ∙ ap (λ (l : List ℕ). l ∷ lines_of_parts (q ∷ qs)) (strip_one y g);
  as_long = λ m some l. some;
  begins = ([], refl);
}
first_by x y more (b ∷ bs) (q ∷ qs) e f g s = record {
  line = x ∷ strip_carriage_return (b ∷ bs);
  other = y ∷ strip_carriage_return (b ∷ bs);
  tail = lines_of_parts (q ∷ qs);
  is = ap lines_of_parts (split_is x more (b ∷ bs) (q ∷ qs) e s) ∙ ap (λ (l : List ℕ). l ∷ lines_of_parts (q ∷ qs)) (strip_more x b bs);
  becomes = ap lines_of_parts (split_is y more (b ∷ bs) (q ∷ qs) f s) ∙ ap (λ (l : List ℕ). l ∷ lines_of_parts (q ∷ qs)) (strip_more y b bs);
  as_long = λ m some l. l;
  begins = (strip_carriage_return (b ∷ bs), refl);
}

pub first_of : (x y : ℕ) (more : List ℕ) → eqb x 10 ≡ false → eqb y 10 ≡ false → eqb y 13 ≡ false → First x y more
first_of x y more e f g = let h = some_part (λ b. eqb b 10) more in first_by x y more h.0 h.1 e f g h.2
