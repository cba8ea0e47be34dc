-- The answers of a text, a line at a time.
use Rattle.std.proofs.Common.{◌≡◌, ℕ, ◌-◌, ◌<◌, ◌≤◌, List, [], ◌∷◌, ◌++◌, length, replicate, true, false, cond, ltb, Option, Some, None, refl, sym, subst, ap, ◌∙◌, append_assoc, arith}
use Rattle.std.specs.Prelude.{Result, Ok, Err}
use Rattle.std.specs.Option.{option_map_or}
use Rattle.std.proofs.lemmas.List.{append-nil}
use Rattle.std.proofs.lemmas.Bool.Decides.{nat_tests}
use Rattle.reg_machine.specs.declared.op.Answer.{Answer}
use Rattle.reg_trace.specs.declared.fault.AnswerFault.{AnswerFault}
use Rattle.reg_trace.specs.declared.fault.AnswerFault.TheVariants as fault
use Rattle.reg_trace.specs.declared.reading.Repeated.{Repeated}
use Rattle.text_lines.proofs.CutLemmas.{some_field, some_line}
use Rattle.text_lines.specs.Lines.{HasNoEnd, TextLine, fields, lines_of}
use Rattle.res_model.specs.Steps.{with_prefix}
use Rattle.reg_trace.specs.Reading.{answers_from, line_after, line_form}

-- a line of answers has two fields, and not more
pub form_many : (all : List (List ℕ)) (a b text : List ℕ) → all ≡ a ∷ b ∷ fields text → line_form all ≡ None
form_many all a b text e = let s = some_field text in ap line_form (e ∙ ap (λ (fs : List (List ℕ)). a ∷ b ∷ fs) s.2)

-- one behind the other
prefixes : (xs ys : List Answer) (r : Result (List Answer) AnswerFault) → with_prefix xs (with_prefix ys r) ≡ with_prefix (xs ++ ys) r
prefixes xs ys (Err e) = refl
prefixes xs ys (Ok zs) = ap Ok (sym (append_assoc xs ys zs))

pub none_behind : (xs : List Answer) → ◌≡◌ {A = Result (List Answer) AnswerFault} (with_prefix xs (Ok [])) (Ok xs)
none_behind xs = ap Ok (append-nil xs)

taken : (number room : ℕ) (found : Option Repeated) (r : Repeated) (ls : List TextLine) → found ≡ Some r → r.count ≤ room
    → option_map_or (λ (q : Repeated). cond (ltb room q.count) (Err (fault.Line number)) (with_prefix (replicate q.count q.answer) (answers_from (line_after number) (room - q.count) ls))) found (Err (fault.Line number))
    ≡ with_prefix (replicate r.count r.answer) (answers_from (line_after number) (room - r.count) ls)
taken number room found r ls e fits =
    let low : ltb room r.count ≡ false = grind (arith, nat_tests) in
    ap (λ (o : Option Repeated). option_map_or (λ (q : Repeated). cond (ltb room q.count) (Err (fault.Line number)) (with_prefix (replicate q.count q.answer) (answers_from (line_after number) (room - q.count) ls))) o (Err (fault.Line number))) e
    ∙ ap (λ b. cond b (Err (fault.Line number)) (with_prefix (replicate r.count r.answer) (answers_from (line_after number) (room - r.count) ls))) low

-- a line that is read
pub line_read : (whole : Result (List Answer) AnswerFault) (prefix : List Answer) (number room : ℕ) (lines : List TextLine) (line : List ℕ) (ls : List TextLine) (r : Repeated)
    → whole ≡ with_prefix prefix (answers_from number room lines) → lines ≡ record { text = line; ended = true } ∷ ls → Some r ≡ line_form (fields line) → r.count ≤ room
    → whole ≡ with_prefix (prefix ++ replicate r.count r.answer) (answers_from (line_after number) (room - r.count) ls)
line_read whole prefix number room lines line ls r h cut is fits =
    h ∙ ap (λ (xs : List TextLine). with_prefix prefix (answers_from number room xs)) cut
    ∙ ap (with_prefix prefix) (taken number room (line_form (fields line)) r ls (sym is) fits)
    ∙ prefixes prefix (replicate r.count r.answer) (answers_from (line_after number) (room - r.count) ls)

-- a line that is refused
pub line_refused : (whole : Result (List Answer) AnswerFault) (prefix : List Answer) (number room : ℕ) (lines : List TextLine)
    → whole ≡ with_prefix prefix (answers_from number room lines) → answers_from number room lines ≡ Err (fault.Line number) → whole ≡ Err (fault.Line number)
line_refused whole prefix number room lines h e = h ∙ ap (with_prefix prefix) e

pub no_form : (number room : ℕ) (lines : List TextLine) (line : List ℕ) (ls : List TextLine) → lines ≡ record { text = line; ended = true } ∷ ls → None ≡ line_form (fields line) → answers_from number room lines ≡ Err (fault.Line number)
no_form number room lines line ls cut is =
    ap (answers_from number room) cut
    ∙ ap (λ (o : Option Repeated). option_map_or (λ (q : Repeated). cond (ltb room q.count) (Err (fault.Line number)) (with_prefix (replicate q.count q.answer) (answers_from (line_after number) (room - q.count) ls))) o (Err (fault.Line number))) (sym is)

pub too_many : (number room : ℕ) (lines : List TextLine) (line : List ℕ) (ls : List TextLine) (r : Repeated) → lines ≡ record { text = line; ended = true } ∷ ls → Some r ≡ line_form (fields line) → room < r.count → answers_from number room lines ≡ Err (fault.Line number)
too_many number room lines line ls r cut is over =
    let high : ltb room r.count ≡ true = grind (arith, nat_tests) in
    ap (answers_from number room) cut
    ∙ ap (λ (o : Option Repeated). option_map_or (λ (q : Repeated). cond (ltb room q.count) (Err (fault.Line number)) (with_prefix (replicate q.count q.answer) (answers_from (line_after number) (room - q.count) ls))) o (Err (fault.Line number))) (sym is)
    ∙ ap (λ b. cond b (Err (fault.Line number)) (with_prefix (replicate r.count r.answer) (answers_from (line_after number) (room - r.count) ls))) high

unended : (number room : ℕ) (l : TextLine) (ls : List TextLine) → l.ended ≡ false → answers_from number room (l ∷ ls) ≡ Err (fault.Line number)
unended number room l ls e =
    ap (λ b. option_map_or (λ (q : Repeated). cond (ltb room q.count) (Err (fault.Line number)) (with_prefix (replicate q.count q.answer) (answers_from (line_after number) (room - q.count) ls))) (cond b (line_form (fields l.text)) None) (Err (fault.Line number))) e

pub no_end : (number room : ℕ) (text : List ℕ) → 0 < length text → HasNoEnd (lines_of text) → answers_from number room (lines_of text) ≡ Err (fault.Line number)
no_end number room text some h =
    let s = some_line text some in
    let open_end : HasNoEnd (s.0 ∷ s.1) = subst HasNoEnd s.2 h in
    ap (answers_from number room) s.2 ∙ unended number room s.0 s.1 open_end
