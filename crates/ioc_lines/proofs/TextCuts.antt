-- The lines of a text that is put together of lines with their ends.
use Rattle.std.proofs.Common.{◌≡◌, ◌⊎◌, ℕ, suc, ◌+◌, ◌-◌, ◌<◌, ◌≤◌, ◌==◌, List, [], ◌∷◌, ◌++◌, length, take, drop, map, Bool, true, false, cond, eqb, Option, Some, None, refl, sym, ap, ◌∙◌, subst, inl, inr, append_assoc, append-nil, arith}
use Rattle.std.specs.Prelude.{slice_index}
use Rattle.std.specs.List.{flat_map, onto_first, slice_split}
use Rattle.std.specs.Str.Lines as std_lines
use Rattle.std.specs.Str.Lines.{lines, strip_carriage_return}
use Rattle.std.proofs.lemmas.Bool.Decides.{nat_tests}
use Rattle.std.proofs.lemmas.List.Splits.{slice_split-cons_yes, slice_split-cons_no}
use Rattle.res_base.specs.Lists.{Each}
use Rattle.res_base.proofs.SumLemmas.{bool_cases}
use Rattle.ioc_lines.specs.Lines.{IsClean, IsEnded, TextLine, ended, ending, last_of, lines_of_parts, text_line, text_lines, unended}
use Rattle.ioc_lines.proofs.DivideLemmas.{take_prefix}
use Rattle.ioc_lines.proofs.TextLemmas.{prefix_and_last, less_one, whole}

-- ---- lists of bytes

pub each_append : {X : Type 0} (P : X → Type 0) (xs ys : List X) → Each P xs → Each P ys → Each P (xs ++ ys)
each_append P [] ys h k = k
each_append P (x ∷ xs) ys h k = (h.0, each_append P xs ys h.1 k)

pub each_parts : {X : Type 0} (P : X → Type 0) (xs ys : List X) → Each P (xs ++ ys) → Each P xs × Each P ys
each_parts P [] ys h = (tt, h)
each_parts P (x ∷ xs) ys h = let r = each_parts P xs ys h.1 in ((h.0, r.0), r.1)

pub slice_last : (bs : List ℕ) → slice_index bs (length bs - 1) ≡ last_of bs
unfolding last_of
slice_last [] = refl
slice_last (b ∷ []) = refl
slice_last (b ∷ c ∷ bs) =
    ap (slice_index (b ∷ c ∷ bs)) (less_one (suc (length bs))) ∙ sym (ap (slice_index (c ∷ bs)) (less_one (length bs))) ∙ slice_last (c ∷ bs)

pub last_behind : (xs : List ℕ) (y : ℕ) (ys : List ℕ) → last_of (xs ++ y ∷ ys) ≡ last_of (y ∷ ys)
unfolding last_of
last_behind [] y ys = refl
last_behind (x ∷ []) y ys = refl
last_behind (x ∷ z ∷ zs) y ys = last_behind (z ∷ zs) y ys

pub last_one : (xs : List ℕ) (y : ℕ) → last_of (xs ++ y ∷ []) ≡ y
unfolding last_of
last_one [] y = refl
last_one (x ∷ []) y = refl
last_one (x ∷ z ∷ zs) y = last_one (z ∷ zs) y

last_clean : (b : ℕ) (bs : List ℕ) → IsClean (b ∷ bs) → (last_of (b ∷ bs) == 10) ≡ false
unfolding last_of
last_clean b [] h = h.0
last_clean b (c ∷ bs) h = last_clean c bs h.1

-- ---- a CR at the end

strip_is : (l : List ℕ) → strip_carriage_return l ≡ cond (last_of l == 13) (take (length l - 1) l) l
strip_is l = ap (λ (n : ℕ). cond (n == 13) (take (length l - 1) l) l) (slice_last l)

pub strip_plain : (l : List ℕ) → (last_of l == 13) ≡ false → strip_carriage_return l ≡ l
strip_plain l e = strip_is l ∙ ap (λ (t : Bool). cond t (take (length l - 1) l) l) e

one_longer : (bs : List ℕ) (y : ℕ) → length (bs ++ y ∷ []) ≡ suc (length bs)
one_longer [] y = refl
one_longer (b ∷ bs) y = ap suc (one_longer bs y)

prefix_but_one : (s : List ℕ) (y : ℕ) → take (length (s ++ y ∷ []) - 1) (s ++ y ∷ []) ≡ s
prefix_but_one s y = ap (λ (n : ℕ). take n (s ++ y ∷ [])) (count s) ∙ take_prefix s (y ∷ [])
  where
    count : (s : List ℕ) → length (s ++ y ∷ []) - 1 ≡ length s
    count [] = refl
    count (b ∷ bs) = less_one (length (bs ++ y ∷ [])) ∙ one_longer bs y

pub strip_cr : (s : List ℕ) → strip_carriage_return (s ++ 13 ∷ []) ≡ s
strip_cr s =
    strip_is (s ++ 13 ∷ []) ∙ ap (λ (n : ℕ). cond (n == 13) (take (length (s ++ 13 ∷ []) - 1) (s ++ 13 ∷ [])) (s ++ 13 ∷ [])) (last_one s 13) ∙ prefix_but_one s 13

none_last : (last_of [] == 13) ≡ true → ⊥
unfolding last_of
none_last e = absurd cc

pub cr_behind : (l : List ℕ) → (last_of l == 13) ≡ true → l ≡ strip_carriage_return l ++ 13 ∷ []
cr_behind [] e = absurd (none_last e)
cr_behind (b ∷ bs) e =
    let at : slice_index (b ∷ bs) (length bs) ≡ last_of (b ∷ bs) = sym (ap (slice_index (b ∷ bs)) (less_one (length bs))) ∙ slice_last (b ∷ bs) in
    let is : last_of (b ∷ bs) ≡ 13 = grind (arith, nat_tests) in
    prefix_and_last b bs ∙ ap (λ (n : ℕ). take (length bs) (b ∷ bs) ++ n ∷ []) (at ∙ is)
    ∙ ap (λ (x : List ℕ). x ++ 13 ∷ []) (sym (strip_is (b ∷ bs) ∙ ap (λ (t : Bool). cond t (take (length (b ∷ bs) - 1) (b ∷ bs)) (b ∷ bs)) e ∙ ap (λ (n : ℕ). take n (b ∷ bs)) (less_one (length bs))))

-- ---- cuts at LF

some_part : (p : ℕ → Bool) (xs : List ℕ) → (part : List ℕ) × (parts : List (List ℕ)) × (slice_split p xs ≡ part ∷ parts)
some_part p [] = ([], [], refl)
some_part p (x ∷ xs) =
    let r = some_part p xs in
    elim (bool_cases (p x)) [ inl e ↦ ([], slice_split p xs, rw e refl) | inr e ↦ (x ∷ r.0, r.1, rw (e, r.2) refl) ]

split_cut : (p : ℕ → Bool) (f r : List ℕ) (x : ℕ) → p x ≡ true → slice_split p (f ++ x ∷ r) ≡ slice_split p f ++ slice_split p r
split_cut p [] r x e = slice_split-cons_yes p x r e
split_cut p (y ∷ f) r x e =
    let h = some_part p f in
    elim (bool_cases (p y)) [ inl t ↦ rw (t, split_cut p f r x e) refl | inr t ↦ rw (t, split_cut p f r x e, h.2) refl ]

split_whole : (part : List ℕ) → IsClean part → slice_split (λ b. b == 10) part ≡ part ∷ []
split_whole [] h = refl
split_whole (b ∷ bs) h = slice_split-cons_no (λ b. b == 10) b bs h.0 ∙ ap (onto_first b) (split_whole bs h.1)

one_before : (line : List ℕ) (parts : List (List ℕ)) (q : List ℕ) (more : List (List ℕ)) → parts ≡ q ∷ more → std_lines.lines_of_parts (line ∷ parts) ≡ strip_carriage_return line ∷ std_lines.lines_of_parts parts
one_before line parts q more e = rw e refl

-- a line before an LF
pub line_then : (part rest : List ℕ) → IsClean part → lines (part ++ 10 ∷ rest) ≡ strip_carriage_return part ∷ lines rest
line_then part rest h =
    let more = some_part (λ b. b == 10) rest in
    ap std_lines.lines_of_parts (split_cut (λ b. b == 10) part rest 10 refl ∙ ap (λ (x : List (List ℕ)). x ++ slice_split (λ b. b == 10) rest) (split_whole part h))
    ∙ one_before part (slice_split (λ b. b == 10) rest) more.0 more.1 more.2

abbrev pub if_any : List ℕ → List (List ℕ)
if_any [] = []
if_any (b ∷ bs) = (b ∷ bs) ∷ []

-- what stands behind the last LF
pub line_last : (part : List ℕ) → IsClean part → lines part ≡ if_any part
line_last [] h = refl
line_last (b ∷ bs) h = let some : eqb (suc (length bs)) 0 ≡ false = grind (arith, nat_tests) in ap std_lines.lines_of_parts (split_whole (b ∷ bs) h) ∙ rw some refl

-- ---- lines with their ends

abbrev pub says_on : TextLine → List ℕ
says_on l = l.says

ended_by : (l : TextLine) (rest : List ℕ) → IsClean l.says → ((l.end ≡ 10 ∷ []) × ((last_of l.says == 13) ≡ false)) ⊎ (l.end ≡ 13 ∷ 10 ∷ []) → lines (whole l ++ rest) ≡ l.says ∷ lines rest
ended_by l rest h (inl e) =
    ap (λ (x : List ℕ). lines ((l.says ++ x) ++ rest)) e.0 ∙ ap lines (append_assoc l.says (10 ∷ []) rest) ∙ line_then l.says rest h
    ∙ ap (λ (x : List ℕ). x ∷ lines rest) (strip_plain l.says e.1)
ended_by l rest h (inr e) =
    let clean : IsClean (l.says ++ 13 ∷ []) = each_append (λ (b : ℕ). (b == 10) ≡ false) l.says (13 ∷ []) h (refl, tt) in
    ap (λ (x : List ℕ). lines ((l.says ++ x) ++ rest)) e
    ∙ ap lines (append_assoc l.says (13 ∷ 10 ∷ []) rest ∙ sym (append_assoc l.says (13 ∷ []) (10 ∷ rest)))
    ∙ line_then (l.says ++ 13 ∷ []) rest clean
    ∙ ap (λ (x : List ℕ). x ∷ lines rest) (strip_cr l.says)

pub ended_lines : (ls : List TextLine) (rest : List ℕ) → Each IsEnded ls → lines (flat_map whole ls ++ rest) ≡ map says_on ls ++ lines rest
ended_lines [] rest h = refl
ended_lines (l ∷ ls) rest h =
    ap lines (append_assoc (whole l) (flat_map whole ls) rest) ∙ ended_by l (flat_map whole ls ++ rest) h.0.clean h.0.by ∙ ap (λ (x : List (List ℕ)). l.says ∷ x) (ended_lines ls rest h.1)

-- ---- a text is of such lines, and what stands behind the last LF

abbrev ClearAll : List (List ℕ) → Type 0
ClearAll parts = Each IsClean parts

clean_on : (x : ℕ) (parts : List (List ℕ)) → (x == 10) ≡ false → ClearAll parts → ClearAll (onto_first x parts)
clean_on x [] e h = ((e, tt), tt)
clean_on x (part ∷ parts) e h = ((e, h.0), h.1)

clean_parts : (bs : List ℕ) → ClearAll (slice_split (λ b. b == 10) bs)
clean_parts [] = (tt, tt)
clean_parts (b ∷ bs) = elim (bool_cases (b == 10)) [
  | inl e ↦ rw e (tt, clean_parts bs)
  | inr e ↦ rw e (clean_on b (slice_split (λ b. b == 10) bs) e (clean_parts bs))
]

end_is : (l : List ℕ) → ending l ≡ cond (last_of l == 13) (13 ∷ 10 ∷ []) (10 ∷ [])
end_is l = ap (λ (n : ℕ). cond (n == 13) (13 ∷ 10 ∷ []) (10 ∷ [])) (slice_last l)

part_ended : (part : List ℕ) → IsClean part → IsEnded (ended part)
part_ended part h = elim (bool_cases (last_of part == 13)) [
  | inl e ↦ record {
    clean = (each_parts (λ (b : ℕ). (b == 10) ≡ false) (strip_carriage_return part) (13 ∷ []) (subst IsClean (cr_behind part e) h)).0;
    by = inr (end_is part ∙ ap (λ (t : Bool). cond t (13 ∷ 10 ∷ []) (10 ∷ [])) e);
  }
  | inr e ↦ record {
    clean = subst IsClean (sym (strip_plain part e)) h;
    by = inl (end_is part ∙ ap (λ (t : Bool). cond t (13 ∷ 10 ∷ []) (10 ∷ [])) e, subst (λ (x : List ℕ). (last_of x == 13) ≡ false) (sym (strip_plain part e)) e);
  }
]

pub record IsParted (ls : List TextLine) : Type 0 where
  pub prefix : List TextLine
  pub tail : List ℕ
  pub is : ls ≡ prefix ++ unended tail
  pub ended : Each IsEnded prefix
  pub clean : IsClean tail

parted : (parts : List (List ℕ)) → ClearAll parts → IsParted (lines_of_parts parts)
parted [] h = record { prefix = []; tail = []; is = refl; ended = tt; clean = tt }
parted (part ∷ []) h = record { prefix = []; tail = part; is = refl; ended = tt; clean = h.0 }
parted (part ∷ next ∷ more) h =
    let r = parted (next ∷ more) h.1 in
    record { prefix = ended part ∷ r.prefix; tail = r.tail; is = ap (λ (x : List TextLine). ended part ∷ x) r.is; ended = (part_ended part h.0, r.ended); clean = r.clean }

pub text_parted : (text : List ℕ) → IsParted (text_lines text)
text_parted text = parted (slice_split (λ b. b == 10) text) (clean_parts text)

-- ---- what ends with an LF

prefix_ends : (ls : List TextLine) (tail : List ℕ) (b : ℕ) (bs : List ℕ) → tail ≡ b ∷ bs → IsClean tail → (last_of (flat_map whole ls ++ tail) == 10) ≡ false
prefix_ends ls tail b bs e h =
    ap (λ (x : List ℕ). last_of (flat_map whole ls ++ x) == 10) e ∙ ap (λ (n : ℕ). n == 10) (last_behind (flat_map whole ls) b bs) ∙ last_clean b bs (subst IsClean e h)

-- the last line has its end
pub no_tail : (ls : List TextLine) (tail : List ℕ) → IsClean tail → (last_of (flat_map whole ls ++ tail) == 10) ≡ true → tail ≡ []
no_tail ls [] h e = refl
no_tail ls (b ∷ bs) h e = let f : (last_of (flat_map whole ls ++ b ∷ bs) == 10) ≡ false = prefix_ends ls (b ∷ bs) b bs refl h in absurd cc
