-- For tests: a judge of the choices whose first position is at least a bound.
use Rattle.std.specs.Prelude.{◌≡◌, ℕ, ◌≤◌, ◌<◌, List, [], ◌∷◌, Bool, true, false, nat_le, nat_lt, if◌then◌else◌}
use Rattle.choice_rank.specs.declared.variable.VarShape.{VarShape}
use Rattle.choice_rank.specs.Choices.{IsShape}
use Rattle.box_split.specs.Boxes.{Run, LiesIn, is_single, lows}
use Rattle.box_split.proofs.RunLemmas.{and_both}
use Rattle.search_api.specs.declared.verdict.Reason.{Reason}
use Rattle.search_api.specs.declared.verdict.Reason.TheVariants as reason
use Rattle.search_api.specs.declared.verdict.Verdict.{Verdict}
use Rattle.search_api.specs.declared.verdict.Verdict.TheVariants as verdict
use Rattle.search_api.specs.Meaning.{Meaning, IsLawful}
use Rattle.std.proofs.Common.{refl, arith, leb}
use Rattle.std.proofs.lemmas.Bool.Decides.{nat_tests}

abbrev pub reaches : ℕ → List ℕ → Bool
reaches least [] = true
reaches least (x ∷ xs) = nat_le least x

-- even the highest position is too low
abbrev pub is_low : ℕ → List Run → Bool
is_low least [] = false
is_low least (r ∷ rs) = nat_lt r.high least

abbrev pub verdict_by : Bool → Bool → Verdict
verdict_by low single = if low then verdict.Bad (reason.Limit 3) else (if single then verdict.Legal else verdict.Open)

abbrev pub tiny_meaning : List VarShape → ℕ → Meaning
tiny_meaning vars least = record { shape = vars; legal = reaches least; refutes = λ r box. is_low least box; verdict = λ box. verdict_by (is_low least box) (is_single box) }

none_reaches : (least : ℕ) (box : List Run) → is_low least box ≡ true → (choice : List ℕ) → LiesIn box choice → reaches least choice ≡ true → ⊥
none_reaches least [] h choice i l = cc
none_reaches least (r ∷ rs) h [] i l = absurd i
none_reaches least (r ∷ rs) h (x ∷ xs) i l =
    let low : r.high < least = grind (arith, nat_tests, h) in
    let high : least ≤ x = grind (arith, nat_tests, l) in
    absurd (omega (arith, i.1, low, high))

bad_is_low : (low single : Bool) (r : Reason) → verdict_by low single ≡ verdict.Bad r → low ≡ true
bad_is_low true single r e = refl
bad_is_low false true r e = cc
bad_is_low false false r e = cc

legal_is_one : (low single : Bool) → verdict_by low single ≡ verdict.Legal → (low ≡ false) × (single ≡ true)
legal_is_one true single e = cc
legal_is_one false true e = (refl, refl)
legal_is_one false false e = cc

open_is_more : (low single : Bool) → verdict_by low single ≡ verdict.Open → single ≡ false
open_is_more true single e = cc
open_is_more false true e = cc
open_is_more false false e = refl

lows_reach : (least : ℕ) (box : List Run) → is_low least box ≡ false → is_single box ≡ true → reaches least (lows box) ≡ true
lows_reach least [] h s = refl
lows_reach least (r ∷ rs) h s =
    let one : leb r.high r.low ≡ true = (and_both (leb r.high r.low) (is_single rs) s).0 in
    grind (arith, nat_tests, h, one)

pub tiny_lawful : (vars : List VarShape) (least : ℕ) → IsShape vars → IsLawful (tiny_meaning vars least)
tiny_lawful vars least shape = record {
  is_shape = shape;
  none_legal = λ r box b h choice i o l. none_reaches least box h choice o l;
  bad_refutes = λ r box b e. bad_is_low (is_low least box) (is_single box) r e;
  legal_is_one = λ box b e. let one = legal_is_one (is_low least box) (is_single box) e in (one.1, lows_reach least box one.0 one.1);
  open_has_two = λ box b e. open_is_more (is_low least box) (is_single box) e;
}
