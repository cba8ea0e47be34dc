-- A name is read from what is written of it.
use Rattle.std.proofs.Common.{◌≡◌, ℕ, ◌==◌, List, [], ◌∷◌, ◌++◌, Bool, true, false, Option, Some, refl, ap, ◌∙◌, inl, inr}
use Rattle.std.specs.Prelude.{◌||◌}
use Rattle.res_base.proofs.SumLemmas.{bool_cases}
use Rattle.ioc_text.specs.Lines.{after_bytes, is_escapable, undone, undone_from}
use Rattle.ioc_lines.specs.Lines.{escaped, escaped_byte, is_special}

pub escaped_first : (b : ℕ) (bs : List ℕ) → escaped (b ∷ bs) ≡ escaped_byte b ++ escaped bs
unfolding escaped
escaped_first b bs = refl

or_more : (x a b c d e : Bool) → ((((a || b) || c) || d) || e) ≡ true → (((((x || a) || b) || c) || d) || e) ≡ true
or_more true a b c d e h = refl
or_more false a b c d e h = h

first_false : (a b c d e : Bool) → ((((a || b) || c) || d) || e) ≡ false → a ≡ false
first_false true b c d e h = h
first_false false b c d e h = refl

escapable : (b : ℕ) → is_special b ≡ true → is_escapable b ≡ true
escapable b h = or_more (b == 32) (b == 92) (b == 58) (b == 61) (b == 35) (b == 33) h

pub no_backslash : (b : ℕ) → is_special b ≡ false → (b == 92) ≡ false
no_backslash b h = first_false (b == 92) (b == 58) (b == 61) (b == 35) (b == 33) h

pub byte_read : (b : ℕ) (rest : List ℕ) → undone_from false (escaped_byte b ++ rest) ≡ after_bytes (b ∷ []) (undone_from false rest)
unfolding undone_from
byte_read b rest = elim (bool_cases (is_special b)) [
  | inl e ↦ rw (e, escapable b e) refl
  | inr e ↦ rw (e, no_backslash b e) refl
]

prefix_read : (b : ℕ) (o : Option (List ℕ)) (bs : List ℕ) → o ≡ Some bs → after_bytes (b ∷ []) o ≡ Some (b ∷ bs)
prefix_read b o bs e = rw e refl

all_read : (name : List ℕ) → undone_from false (escaped name) ≡ Some name
unfolding undone_from escaped
all_read [] = refl
all_read (b ∷ bs) = ap (undone_from false) (escaped_first b bs) ∙ byte_read b (escaped bs) ∙ prefix_read b (undone_from false (escaped bs)) bs (all_read bs)

pub name_read : (name : List ℕ) → undone (escaped name) ≡ Some name
unfolding undone
name_read name = all_read name
