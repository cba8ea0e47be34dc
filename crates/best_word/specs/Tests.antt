-- For tests: a judge of two variables for which every choice is legal.
use Rattle.std.specs.Prelude.{◌≡◌, List, [], ◌∷◌, Bool, true, false, if◌then◌else◌}
use Rattle.std.proofs.Common.{refl, arith}
use Rattle.choice_rank.specs.Choices.{IsShape}
use Rattle.choice_rank.specs.declared.variable.Costs.TheVariants.{AllZero, HomeFirst}
use Rattle.choice_rank.specs.declared.variable.VarShape.{VarShape}
use Rattle.box_split.specs.Boxes.{is_single}
use Rattle.search_api.specs.declared.verdict.Reason.{Reason}
use Rattle.search_api.specs.declared.verdict.Verdict.{Verdict}
use Rattle.search_api.specs.declared.verdict.Verdict.TheVariants as verdict
use Rattle.search_api.specs.Meaning.{Meaning, IsLawful}
use Rattle.search_api.specs.Accounts.{IsLegalRank}

-- a signal that has to be moved costs one, and a need nothing
abbrev pub two_variables : List VarShape
two_variables = record { size = 2; costs = HomeFirst } ∷ record { size = 2; costs = AllZero } ∷ []

abbrev pub verdict_by : Bool → Verdict
verdict_by single = if single then verdict.Legal else verdict.Open

abbrev pub free_meaning : List VarShape → Meaning
free_meaning vars = record { shape = vars; legal = λ c. true; refutes = λ r box. false; verdict = λ box. verdict_by (is_single box) }

never_bad : (single : Bool) (r : Reason) → verdict_by single ≡ verdict.Bad r → ⊥
never_bad true r e = cc
never_bad false r e = cc

legal_is_single : (single : Bool) → verdict_by single ≡ verdict.Legal → single ≡ true
legal_is_single true e = refl
legal_is_single false e = cc

open_is_more : (single : Bool) → verdict_by single ≡ verdict.Open → single ≡ false
open_is_more true e = cc
open_is_more false e = refl

pub free_lawful : (vars : List VarShape) → IsShape vars → IsLawful (free_meaning vars)
free_lawful vars shape = record {
  is_shape = shape;
  none_legal = λ r box b h choice i o l. absurd cc;
  bad_refutes = λ r box b e. absurd (never_bad (is_single box) r e);
  legal_is_one = λ box b e. (legal_is_single (is_single box) e, refl);
  open_has_two = λ box b e. open_is_more (is_single box) e;
}

-- the first moved, the second at its first place
pub six_is_legal : IsLegalRank (free_meaning two_variables) 6
six_is_legal = record { choice = 1 ∷ 0 ∷ []; is_choice = (omega arith, (omega arith, tt)); is_legal = refl; rank_is = refl }

pub one_is_legal : IsLegalRank (free_meaning two_variables) 1
one_is_legal = record { choice = 0 ∷ 1 ∷ []; is_choice = (omega arith, (omega arith, tt)); is_legal = refl; rank_is = refl }
