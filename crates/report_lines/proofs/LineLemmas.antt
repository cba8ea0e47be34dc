-- Lines that are passed over.
use Rattle.std.proofs.Common.{◌≡◌, ℕ, zero, suc, ◌+◌, ◌/◌, ◌%◌, ◌≤◌, ◌==◌, List, [], ◌∷◌, ◌++◌, Bool, true, false, ◌&&◌, not, ltb, inl, inr, refl, sym, ap, subst, ◌∙◌, append_assoc, arith}
use Rattle.std.specs.Prelude.{codes, decimal}
use Rattle.std.specs.Fmt.{digit_glyph, digits, digits_onto}
use Rattle.std.specs.List.{concat}
use Rattle.std.specs.Str.{bytes_eq}
use Rattle.std.proofs.lemmas.Bool.Decides.{nat_tests}
use Rattle.std.proofs.lemmas.Slice.Eq.{bytes_eq-Decides}
use Rattle.res_base.specs.Lists.{Each}
use Rattle.res_base.proofs.SumLemmas.{bool_cases}
use Rattle.refutation.specs.Reading.{IsPassedOver}
use Rattle.refutation.specs.Spelling.{lines_text, ArePassedOver}

-- ---- bytes that end no line
abbrev pub IsClean : List ℕ → Type 0
IsClean xs = Each (λ (c : ℕ). (c == 10) ≡ false) xs

abbrev pub is_clean : List ℕ → Bool
is_clean [] = true
is_clean (c ∷ cs) = not (c == 10) && is_clean cs

clean_first : (c : ℕ) (cs : List ℕ) (b : Bool) → (c == 10) ≡ b → (not b && is_clean cs) ≡ true → (is_clean cs ≡ true → IsClean cs) → IsClean (c ∷ cs)
clean_first c cs true e t rest = let z : false ≡ true = t in absurd cc
clean_first c cs false e t rest = (e, rest t)

pub clean_text : (xs : List ℕ) → is_clean xs ≡ true → IsClean xs
clean_text [] h = tt
clean_text (c ∷ cs) h = clean_first c cs (c == 10) refl h (λ t. clean_text cs t)

pub clean_append : (xs ys : List ℕ) → IsClean xs → IsClean ys → IsClean (xs ++ ys)
clean_append [] ys h k = k
clean_append (x ∷ xs) ys h k = (h.0, clean_append xs ys h.1 k)

pub above : (c : ℕ) → 11 ≤ c → (c == 10) ≡ false
above c h = grind (arith, nat_tests)

glyph : (n : ℕ) → (digit_glyph false (n % 10) == 10) ≡ false
glyph n =
    let small : ltb (n % 10) 10 ≡ true = grind (arith, nat_tests) in
    rw small (above (48 + n % 10) (omega arith))

clean_onto : (k n : ℕ) (acc : List ℕ) → IsClean acc → IsClean (digits_onto k 10 false n acc)
clean_onto zero n acc h = h
clean_onto (suc k) n acc h = elim (bool_cases (n / 10 == 0)) [
  | inl e ↦ rw e (glyph n, h)
  | inr e ↦ rw e (clean_onto k (n / 10) (digit_glyph false (n % 10) ∷ acc) (glyph n, h))
]

pub clean_decimal : (n : ℕ) → IsClean (decimal n)
unfolding digits
clean_decimal n = clean_onto 64 n [] tt

-- ---- lines
-- bytes that end no line, and then the end of one
pub record Ends (x : List ℕ) : Type 0 where
  pub line : List ℕ
  pub clean : IsClean line
  pub is : x ≡ line ++ 10 ∷ []

pub ends : (line : List ℕ) → IsClean line → Ends (line ++ 10 ∷ [])
ends line h = record { line = line; clean = h; is = refl }

pub ends_after : (xs ys : List ℕ) → IsClean xs → Ends ys → Ends (xs ++ ys)
ends_after xs ys h e = record { line = xs ++ e.line; clean = clean_append xs e.line h e.clean; is = ap (λ zs. xs ++ zs) e.is ∙ sym (append_assoc xs e.line (10 ∷ [])) }

abbrev pub first_line : List ℕ
first_line = codes "proof 1" ++ 10 ∷ []

no_first : (line : List ℕ) → bytes_eq (line ++ 10 ∷ []) first_line ≡ false → bytes_eq line (codes "proof 1") ≡ false
no_first line h = elim (bool_cases (bytes_eq line (codes "proof 1"))) [
  | inl t ↦
      let same : line ≡ codes "proof 1" = (bytes_eq-Decides line (codes "proof 1")).0 t in
      let yes : bytes_eq (line ++ 10 ∷ []) first_line ≡ true = (bytes_eq-Decides (line ++ 10 ∷ []) first_line).1 (ap (λ xs. xs ++ 10 ∷ []) same) in
      let z : true ≡ false = sym yes ∙ h in
      absurd cc
  | inr f ↦ f
]

pub passed_line : (x : List ℕ) → Ends x → bytes_eq x first_line ≡ false → ArePassedOver x
passed_line x e h = record {
  lines = e.line ∷ [];
  passed = ((e.clean, no_first e.line (subst (λ xs. bytes_eq xs first_line ≡ false) e.is h)), tt);
  text_is = e.is;
}

each_append : (xs ys : List (List ℕ)) → Each IsPassedOver xs → Each IsPassedOver ys → Each IsPassedOver (xs ++ ys)
each_append [] ys h k = k
each_append (x ∷ xs) ys h k = (h.0, each_append xs ys h.1 k)

lines_append : (xs ys : List (List ℕ)) → lines_text (xs ++ ys) ≡ lines_text xs ++ lines_text ys
lines_append [] ys = refl
lines_append (x ∷ xs) ys = ap (λ zs. x ++ 10 ∷ zs) (lines_append xs ys) ∙ sym (append_assoc x (10 ∷ lines_text xs) (lines_text ys))

pub passed_append : (a b : List ℕ) → ArePassedOver a → ArePassedOver b → ArePassedOver (a ++ b)
passed_append a b x y = record {
  lines = x.lines ++ y.lines;
  passed = each_append x.lines y.lines x.passed y.passed;
  text_is = ap (λ xs. xs ++ b) x.text_is ∙ ap (λ xs. lines_text x.lines ++ xs) y.text_is ∙ sym (lines_append x.lines y.lines);
}

pub passed_none : ArePassedOver []
passed_none = record { lines = []; passed = tt; text_is = refl }

pub passed_concat : (xs : List (List ℕ)) → Each ArePassedOver xs → ArePassedOver (concat xs)
passed_concat [] h = passed_none
passed_concat (x ∷ xs) h = passed_append x (concat xs) h.0 (passed_concat xs h.1)
