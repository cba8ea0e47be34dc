-- What the text of flag answers is read as, line by line.
use Rattle.std.specs.Prelude.{◌≡◌, ℕ, ◌+◌, ◌-◌, ◌^◌, ◌==◌, ◌&&◌, List, [], ◌∷◌, ◌++◌, length, replicate, Bool, false, Option, Some, None, option_and_then, Result, Ok, Err, if◌then◌else◌, min, nat_lt, nat_le, codes, decimal}
use Rattle.std.specs.Option.{option_map, option_map_or}
use Rattle.std.specs.Str.{bytes_eq}
use Rattle.std.specs.Str.Parse.{digits_value}
use Rattle.reg_machine.specs.declared.op.Answer.{Answer}
use Rattle.reg_machine.specs.Run.{silent}
use Rattle.text_lines.specs.Lines.{TextLine, fields, lines_of}
use Rattle.res_model.specs.Steps.{with_prefix}
use Rattle.reg_trace.specs.declared.fault.AnswerFault.{AnswerFault}
use Rattle.reg_trace.specs.declared.fault.AnswerFault.TheVariants as fault
use Rattle.reg_trace.specs.declared.reading.Repeated.{Repeated}

-- the number below 2^64 whose decimal digits the field is
unfoldable pub number_of : List ℕ → Option ℕ
number_of field = if nat_lt (digits_value 10 field) (2 ^ 64) && bytes_eq field (decimal (digits_value 10 field)) then Some (digits_value 10 field) else None

-- the most answers of a text, and the most steps of a run that is traced
unfoldable pub most : ℕ
most = 1000000

-- so many answers as a line may stand for
unfoldable pub count_of : List ℕ → Option ℕ
count_of field = option_and_then (λ n. if nat_le 1 n && nat_le n 1000000 then Some n else None) (number_of field)

-- ---- flags
-- the text begins with the letter, and what follows the letter there
abbrev pub has_letter : ℕ → List ℕ → Bool
has_letter letter [] = false
has_letter letter (c ∷ cs) = c == letter

abbrev pub past_letter : ℕ → List ℕ → List ℕ
past_letter letter [] = []
past_letter letter (c ∷ cs) = if c == letter then cs else c ∷ cs

-- what follows the letters h, p, l, s and o, where they stand
abbrev pub past_h : List ℕ → List ℕ
past_h text = past_letter 104 text

abbrev pub past_p : List ℕ → List ℕ
past_p text = past_letter 112 (past_h text)

abbrev pub past_l : List ℕ → List ℕ
past_l text = past_letter 108 (past_p text)

abbrev pub past_s : List ℕ → List ℕ
past_s text = past_letter 115 (past_l text)

abbrev pub past_o : List ℕ → List ℕ
past_o text = past_letter 111 (past_s text)

-- the flags whose letters h, p, l, s, o and w a text begins with, in this order and each at most once, and what follows them
unfoldable pub letters_of : List ℕ → Answer × List ℕ
letters_of text = (
  record {
    hse = has_letter 104 text;
    pll = has_letter 112 (past_h text);
    latency = has_letter 108 (past_p text);
    switch = has_letter 115 (past_l text);
    over = has_letter 111 (past_s text);
    over_switch = has_letter 119 (past_o text);
  },
  past_letter 119 (past_o text),
)

-- the flags that a field says: `-`, or some letters and nothing else
unfoldable pub flags_of : List ℕ → Option Answer
flags_of field =
    if bytes_eq field (codes "-") then Some silent
    else (if length field == 0 then None
    else (if length (letters_of field).1 == 0 then Some (letters_of field).0 else None))

-- ---- answers
-- equal answers, so many of them, from the two fields of a line
abbrev pub line_form : List (List ℕ) → Option Repeated
line_form [] = None
line_form (n ∷ []) = None
line_form (n ∷ f ∷ []) = option_and_then (λ count. option_map (λ answer. record { count = count; answer = answer }) (flags_of f)) (count_of n)
line_form (n ∷ f ∷ g ∷ gs) = None

-- what an ended line is read as
abbrev pub ended_as : {X : Type 0} → (List ℕ → Option X) → TextLine → Option X
ended_as read l = if l.ended then read l.text else None

-- the number of the next line. The greatest number that is told stands for all above it
abbrev pub line_after : ℕ → ℕ
line_after number = min (number + 1) 4294967295

-- the answers of lines from one of this number on, where there is room for so many
abbrev pub answers_from : ℕ → ℕ → List TextLine → Result (List Answer) AnswerFault
answers_from number room [] = Ok []
answers_from number room (l ∷ ls) =
    option_map_or (λ (r : Repeated). if nat_lt room r.count then Err (fault.Line number) else with_prefix (replicate r.count r.answer) (answers_from (line_after number) (room - r.count) ls))
    (ended_as (λ text. line_form (fields text)) l) (Err (fault.Line number))

-- the answers that a text says, or its first line that breaks the form or passes the most
unfoldable pub answers_of : List ℕ → Result (List Answer) AnswerFault
answers_of text = answers_from 1 most (lines_of text)
