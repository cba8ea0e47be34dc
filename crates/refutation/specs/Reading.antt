-- What a proof's text is read as, line by line.
use Rattle.std.specs.Prelude.{◌≡◌, ℕ, zero, suc, ◌+◌, ◌^◌, ◌==◌, ◌&&◌, List, [], ◌∷◌, ◌++◌, drop, Bool, true, false, Option, Some, None, option_and_then, Result, Ok, Err, if◌then◌else◌, min, nat_lt, nat_le, nat_eq, codes, decimal}
use Rattle.std.specs.List.{starts_with, slice_split}
use Rattle.std.specs.Option.{option_map, option_map_or}
use Rattle.std.specs.Str.{bytes_eq}
use Rattle.std.specs.Str.Parse.{digits_value}
use Rattle.res_base.specs.Lists.{Each}
use Rattle.search_api.specs.declared.verdict.Class.{Class}
use Rattle.search_api.specs.declared.verdict.Class.TheVariants as class
use Rattle.refutation.specs.declared.node.ProofFault.{ProofFault}
use Rattle.refutation.specs.declared.node.ProofFault.TheVariants as fault
use Rattle.refutation.specs.Forms.{Form, SplitForm, HallForm, LimitForm, RankForm, WitnessForm, due_after}

-- ---- lines
-- the bytes of a line, and whether it has an end
pub record Line : Type 0 where
  pub text : List ℕ
  pub ended : Bool

-- a byte put before the first line
abbrev pub onto_line : ℕ → List Line → List Line
onto_line c [] = record { text = c ∷ []; ended = false } ∷ []
onto_line c (l ∷ ls) = record { text = c ∷ l.text; ended = l.ended } ∷ ls

-- the lines of a text, each but the last with an end
abbrev pub lines_of : List ℕ → List Line
lines_of [] = []
lines_of (c ∷ cs) = if c == 10 then record { text = []; ended = true } ∷ lines_of cs else onto_line c (lines_of cs)

-- the first line, if there is one, has no end
abbrev pub HasNoEnd : List Line → Type 0
HasNoEnd [] = Unit {0}
HasNoEnd (l ∷ ls) = l.ended ≡ false

-- ---- fields
abbrev pub is_space : ℕ → Bool
is_space c = c == 32

-- the fields of a text, divided by single spaces
unfoldable pub fields : List ℕ → List (List ℕ)
fields text = slice_split is_space text

-- the fields of what follows a space, if there is one
abbrev pub more_fields : Option (List ℕ) → List (List ℕ)
more_fields None = []
more_fields (Some text) = fields text

-- the number below 2^64 whose decimal digits the field is
unfoldable pub number_of : List ℕ → Option ℕ
number_of field = if nat_lt (digits_value 10 field) (2 ^ 64) && bytes_eq field (decimal (digits_value 10 field)) then Some (digits_value 10 field) else None

-- such a number below a limit
unfoldable pub number_below : ℕ → List ℕ → Option ℕ
number_below most field = option_and_then (λ n. if nat_lt n most then Some n else None) (number_of field)

-- such a number from a least one on
unfoldable pub number_from : ℕ → ℕ → List ℕ → Option ℕ
number_from least most field = option_and_then (λ n. if nat_le least n then Some n else None) (number_below most field)

-- variables, strictly ascending
abbrev pub variables_from : ℕ → List (List ℕ) → Option (List ℕ)
variables_from least [] = Some []
variables_from least (f ∷ fs) = option_and_then (λ v. option_map (λ vs. v ∷ vs) (variables_from (v + 1) fs)) (number_from least 170 f)

-- ---- the forms of a node's line
abbrev pub split_form : List (List ℕ) → Option Form
split_form [] = None
split_form (v ∷ []) = None
split_form (v ∷ k ∷ []) = option_and_then (λ variable. option_map (SplitForm variable) (number_below 512 k)) (number_below 170 v)
split_form (v ∷ k ∷ f ∷ fs) = None

unfoldable pub hall_form : Class → List (List ℕ) → Option Form
hall_form class fs = option_map (HallForm class) (variables_from 0 fs)

unfoldable pub limit_form : List ℕ → Option Form
limit_form field = option_map LimitForm (number_from 3 18 field)

unfoldable pub form_of_text : List ℕ → Option Form
form_of_text text =
    if bytes_eq text (codes "R") then Some RankForm
    else (if bytes_eq text (codes "W") then Some WitnessForm
    else (if starts_with nat_eq text (codes "S ") then split_form (fields (drop 2 text))
    else (if starts_with nat_eq text (codes "L ") then limit_form (drop 2 text)
    else (if starts_with nat_eq text (codes "H pins ") then hall_form class.Pins (fields (drop 7 text))
    else (if starts_with nat_eq text (codes "H exti ") then hall_form class.Exti (fields (drop 7 text)) else None)))))

unfoldable pub bound_of_text : List ℕ → Option (Option ℕ)
bound_of_text text =
    if bytes_eq text (codes "bound none") then Some None
    else (if starts_with nat_eq text (codes "bound ") then option_map Some (number_below (2 ^ 63) (drop 6 text)) else None)

-- what an ended line is read as
abbrev pub ended_as : {X : Type 0} → (List ℕ → Option X) → Line → Option X
ended_as read l = if l.ended then read l.text else None

abbrev pub is_text : List ℕ → Line → Bool
is_text text l = bytes_eq l.text text

-- ---- the lines of a proof, from a line of this number on
-- the number of the next line. The greatest number that is told stands for all above it
abbrev pub line_after : ℕ → ℕ
line_after number = min (number + 1) 4294967295

-- these nodes, and then what is read
abbrev pub with_prefix : List Form → Result (List Form) ProofFault → Result (List Form) ProofFault
with_prefix prefix (Err e) = Err e
with_prefix prefix (Ok forms) = Ok (prefix ++ forms)

-- so many trees, then the last line, and nothing after it
abbrev pub forms_from : ℕ → ℕ → List Line → Result (List Form) ProofFault
forms_from number due [] = Err (fault.Line number)
forms_from number zero (l ∷ []) = if l.ended && is_text (codes "end") l then Ok [] else Err (fault.Line number)
forms_from number zero (l ∷ m ∷ ls) = if l.ended && is_text (codes "end") l then Err (fault.Line (line_after number)) else Err (fault.Line number)
forms_from number (suc due) (l ∷ ls) =
    option_map_or (λ f. with_prefix (f ∷ []) (forms_from (line_after number) (due_after (suc due) f) ls)) (ended_as form_of_text l) (Err (fault.Line number))

-- a bound, and then what is read
abbrev pub with_bound : Option ℕ → Result (List Form) ProofFault → Result (Option ℕ × List Form) ProofFault
with_bound bound (Err e) = Err e
with_bound bound (Ok forms) = Ok (bound, forms)

-- the bound and the nodes of one tree
abbrev pub bound_from : ℕ → List Line → Result (Option ℕ × List Form) ProofFault
bound_from number [] = Err (fault.Line number)
bound_from number (l ∷ ls) = option_map_or (λ bound. with_bound bound (forms_from (line_after number) 1 ls)) (ended_as bound_of_text l) (Err (fault.Line number))

-- lines are passed over up to the first that is the first line of a proof
abbrev pub proof_from : ℕ → List Line → Result (Option ℕ × List Form) ProofFault
proof_from number [] = Err (fault.Line number)
proof_from number (l ∷ ls) =
    if is_text (codes "proof 1") l then (if l.ended then bound_from (line_after number) ls else Err (fault.Line number)) else proof_from (line_after number) ls

-- the bound and the nodes that a text spells, or its first line that is not of a form due there
unfoldable pub proof_of : List ℕ → Result (Option ℕ × List Form) ProofFault
proof_of text = proof_from 1 (lines_of text)

-- a line that may stand before a proof: it has no end within, and is not a proof's first line
abbrev pub IsPassedOver : List ℕ → Type 0
IsPassedOver line = Each (λ (c : ℕ). (c == 10) ≡ false) line × (bytes_eq line (codes "proof 1") ≡ false)
