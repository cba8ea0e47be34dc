-- How a proof is spelled.
use Rattle.std.specs.Prelude.{◌≡◌, ℕ, List, [], ◌∷◌, ◌++◌, Option, Some, None, true, codes, decimal}
use Rattle.res_base.specs.Lists.{Each}
use Rattle.search_api.specs.declared.verdict.Class.{Class}
use Rattle.search_api.specs.declared.verdict.Class.TheVariants as class
use Rattle.refutation.specs.Forms.{Form, SplitForm, HallForm, LimitForm, RankForm, WitnessForm, FitsForm, FitsBound, takes_up}
use Rattle.refutation.specs.Reading.{IsPassedOver}

abbrev pub class_text : Class → List ℕ
class_text class.Pins = codes "H pins"
class_text class.Exti = codes "H exti"

-- each number after a space
abbrev pub spaced : List ℕ → List ℕ
spaced [] = []
spaced (v ∷ vs) = 32 ∷ (decimal v ++ spaced vs)

-- the line of a node, without its end
abbrev pub form_text : Form → List ℕ
form_text (SplitForm variable after) = codes "S" ++ spaced (variable ∷ after ∷ [])
form_text (HallForm class variables) = class_text class ++ spaced variables
form_text (LimitForm limit) = codes "L" ++ spaced (limit ∷ [])
form_text RankForm = codes "R"
form_text WitnessForm = codes "W"

abbrev pub bound_text : Option ℕ → List ℕ
bound_text None = codes "bound none"
bound_text (Some rank) = codes "bound " ++ decimal rank

-- each line with its end
abbrev pub lines_text : List (List ℕ) → List ℕ
lines_text [] = []
lines_text (line ∷ lines) = line ++ 10 ∷ lines_text lines

abbrev pub forms_text : List Form → List ℕ
forms_text [] = []
forms_text (f ∷ fs) = form_text f ++ 10 ∷ forms_text fs

-- the first line, the bound, the nodes, and the last line
unfoldable pub spelling : Option ℕ → List Form → List ℕ
spelling bound forms = codes "proof 1" ++ 10 ∷ (bound_text bound ++ 10 ∷ (forms_text forms ++ (codes "end" ++ 10 ∷ [])))

-- the text is whole lines, and each is passed over
pub record ArePassedOver (text : List ℕ) : Type 0 where
  pub lines : List (List ℕ)
  pub passed : Each IsPassedOver lines
  pub text_is : text ≡ lines_text lines

-- the text is lines that are passed over, and then the spelling of this bound and of the nodes of one tree, each with a line
pub record Spells (text : List ℕ) (bound : Option ℕ) (forms : List Form) : Type 0 where
  pub before : List (List ℕ)
  pub passed : Each IsPassedOver before
  pub text_is : text ≡ lines_text before ++ spelling bound forms
  pub bound_fits : FitsBound bound
  pub forms_fit : Each FitsForm forms
  pub one_tree : takes_up 1 forms ≡ true
