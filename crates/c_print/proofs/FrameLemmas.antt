-- The line of the frame at a place.
use Rattle.std.proofs.Common.{◌≡◌, ◌≢◌, ℕ, zero, suc, ◌<◌, List, [], ◌++◌, Bool, true, false, length, get_or, refl, sym, ap, ◌∙◌, arith}
use Rattle.c_print.specs.declared.part.Part.{Part}
use Rattle.c_print.specs.declared.part.Part.TheVariants as part
use Rattle.c_print.specs.Text.{part_text, answers_part, frame}
use Rattle.c_print.specs.Prefixes.{GoesOn, IsFrameLine}

abbrev pub NoFrameLine : ℕ → Bool → List ℕ → Type 0
NoFrameLine place over text = (next : Bool) (rest : List ℕ) → IsFrameLine place over text next rest → ⊥

-- both frames begin with two lines that are the same
pub goes_on_before : (over next : Bool) → GoesOn 2 over next
goes_on_before over next = refl

pub no_answers : (over : Bool) (text : List ℕ) → ((rest : List ℕ) → text ≢ part_text part.Answers ++ rest) → ((rest : List ℕ) → text ≢ part_text part.OverAnswers ++ rest) → NoFrameLine 2 over text
no_answers over text short long false rest is = short rest is.1
no_answers over text short long true rest is = long rest is.1

-- the third line tells which frame it is
pub same_frame : (over next : Bool) → part_text (answers_part next) ≡ part_text (answers_part over) → next ≡ over
unfolding part_text
same_frame true true e = refl
same_frame false false e = refl
same_frame true false e = absurd (let l = ap length e in omega (arith, l))
same_frame false true e = absurd (let l = ap length e in omega (arith, l))

-- at any other place both frames have one line, or the line before tells which it is
same_part : (over next : Bool) (place : ℕ) → place < 6 → place ≢ 2 → GoesOn place over next → get_or (frame next) place [] ≡ get_or (frame over) place []
same_part over next zero l other g = refl
same_part over next (suc zero) l other g = refl
same_part over next (suc (suc zero)) l other g = absurd (other refl)
same_part over next (suc (suc (suc n))) l other g =
    ap (λ (b : Bool). get_or (frame b) (suc (suc (suc n))) []) (same_frame over next (ap (λ (ls : List (List ℕ)). get_or ls 2 []) g))

pub no_other : (over : Bool) (place : ℕ) (text : List ℕ) (p : Part) → place < 6 → place ≢ 2 → part_text p ≡ get_or (frame over) place [] → ((rest : List ℕ) → text ≢ part_text p ++ rest) → NoFrameLine place over text
no_other over place text p l other same none next rest is =
    none rest (is.1 ∙ ap (λ (xs : List ℕ). xs ++ rest) (same_part over next place l other is.0 ∙ sym same))

pub is_line : (over : Bool) (place : ℕ) (text : List ℕ) (p : Part) (rest : List ℕ) → part_text p ≡ get_or (frame over) place [] → text ≡ part_text p ++ rest → IsFrameLine place over text over rest
is_line over place text p rest same e = (refl, e ∙ ap (λ (xs : List ℕ). xs ++ rest) same)
