-- For tests: a refuter of the choices whose first position is below a bound.
use Rattle.std.specs.Prelude.{◌≡◌, ℕ, ◌≤◌, ◌<◌, List, [], ◌∷◌, Bool, true, false, nat_le, nat_lt}
use Rattle.std.proofs.Common.{arith}
use Rattle.std.proofs.lemmas.Bool.Decides.{nat_tests}
use Rattle.choice_rank.specs.declared.variable.VarShape.{VarShape}
use Rattle.choice_rank.specs.Choices.{IsShape}
use Rattle.box_split.specs.Boxes.{Run, LiesIn}
use Rattle.search_api.specs.declared.verdict.Verdict.TheVariants as verdict
use Rattle.search_api.specs.Meaning.{Meaning}
use Rattle.tree_check.specs.Sound.{HasSoundReasons}

abbrev pub reaches : ℕ → List ℕ → Bool
reaches least [] = true
reaches least (x ∷ xs) = nat_le least x

-- even the highest position is too low
abbrev pub is_low : ℕ → List Run → Bool
is_low least [] = false
is_low least (r ∷ rs) = nat_lt r.high least

abbrev pub tiny_meaning : List VarShape → ℕ → Meaning
tiny_meaning vars least = record { shape = vars; legal = reaches least; refutes = λ r box. is_low least box; verdict = λ box. verdict.Open }

none_reaches : (least : ℕ) (box : List Run) → is_low least box ≡ true → (choice : List ℕ) → LiesIn box choice → reaches least choice ≡ true → ⊥
none_reaches least [] h choice i l = cc
none_reaches least (r ∷ rs) h [] i l = absurd i
none_reaches least (r ∷ rs) h (x ∷ xs) i l =
    let low : r.high < least = grind (arith, nat_tests, h) in
    let high : least ≤ x = grind (arith, nat_tests, l) in
    absurd (omega (arith, i.1, low, high))

pub tiny_sound : (vars : List VarShape) (least : ℕ) → IsShape vars → HasSoundReasons (tiny_meaning vars least)
tiny_sound vars least shape = record { is_shape = shape; none_legal = λ r box b h choice i o l. none_reaches least box h choice o l }
