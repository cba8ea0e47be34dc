-- A run that is traced, a step at a time.
use Rattle.std.proofs.Common.{◌≡◌, ℕ, zero, suc, ◌+◌, ◌<◌, ◌≤◌, List, [], ◌∷◌, ◌++◌, length, get_or, drop, Bool, true, false, ◌&&◌, cond, refl, sym, subst, ap, ◌∙◌, append_assoc, arith}
use Rattle.std.specs.Prelude.{map, Ok, Err}
use Rattle.std.specs.List.{concat}
use Rattle.std.proofs.lemmas.List.{append-nil}
use Rattle.res_model.specs.declared.table.TableParts.{TableParts}
use Rattle.reg_machine.specs.Legal.{is_legal}
use Rattle.reg_machine.specs.Reset.{View, fresh}
use Rattle.reg_machine.specs.Run.{Config, Running, Done, TimedOut, Forbidden, after, config_at, next, silent}
use Rattle.reg_machine.specs.Step.{step_of}
use Rattle.reg_machine.specs.Words.{IsOp, word_of}
use Rattle.res_base.specs.Lists.{Each}
use Rattle.res_model.specs.declared.clock.Src.{Src}
use Rattle.reg_machine.specs.declared.op.Answer.{Answer}
use Rattle.reg_machine.specs.declared.op.Op.{Op}
use Rattle.reg_machine.specs.declared.op.Stepped.{Stepped}
use Rattle.reg_machine.specs.declared.op.Stepped.TheVariants as stepped
use Rattle.reg_machine.specs.declared.state.State.{State}
use Rattle.reg_machine.specs.declared.state.Target.{Target}
use Rattle.refusal.specs.declared.refusal.Refusal.{Refusal}
use Rattle.refusal.specs.declared.refusal.Refusal.TheVariants.{Fault, OutOfMemory}
use Rattle.refusal.specs.Refusals.{Refuses}
use Rattle.reg_trace.specs.Lines.{OpWent, RunDone, TraceLine, done_text, end_text, line_text, text_of}
use Rattle.reg_trace.specs.Reading.{most}
use Rattle.reg_trace.specs.Trace.{Moment, fine_after, goes_on, is_fine, is_over, lines_from, moment, moments, number_after, register_of, step_lines, trace_lines, trace_of}
use Rattle.reg_trace.specs.Turn.{IsSeen, IsTurn, Traces, run_lines, run_over, seen_text, todo_after}
use Rattle.reg_trace.specs.declared.lines.Seen.{Seen}
use Rattle.reg_trace.specs.declared.turn.Turn.{Turn}
use Rattle.reg_trace.specs.declared.fault.TraceFault.{TraceFault}
use Rattle.reg_trace.specs.declared.fault.TraceFault.TheVariants as fault
use Rattle.res_model.specs.ClockValues.{source_of}

-- ---- a run that has ended

done_none : (n : ℕ) (answers : List Answer) (s : State) → moments n answers (Done s) ≡ []
done_none zero answers s = refl
done_none (suc n) [] s = done_none n [] s
done_none (suc n) (a ∷ answers) s = done_none n answers s

pub rest_none : (n : ℕ) (answers : List Answer) (s : State) → moments n answers (Running [] s) ≡ []
rest_none zero answers s = refl
rest_none (suc n) [] s = done_none n [] s
rest_none (suc n) (a ∷ answers) s = done_none n answers s

next_over : (a : Answer) (c : Config) → is_over c ≡ true → is_over (next a c) ≡ true
next_over a (Running [] s) e = refl
next_over a (Running (op ∷ ops) s) e = absurd cc
next_over a (Done s) e = refl
next_over a (TimedOut name s) e = refl
next_over a (Forbidden rule s) e = refl

stays_over : (n : ℕ) (answers : List Answer) (c : Config) → is_over c ≡ true → is_over (config_at n answers c) ≡ true
stays_over zero answers c e = e
stays_over (suc n) [] c e = stays_over n [] (next silent c) (next_over silent c e)
stays_over (suc n) (a ∷ answers) c e = stays_over n answers (next a c) (next_over a c e)

-- ---- the first step

prefix_moments : (n : ℕ) (answers : List Answer) (op : Op) (ops : List Op) (s : State)
    → moments (suc n) answers (Running (op ∷ ops) s) ≡ moment (get_or answers 0 silent) op s ∷ moments n (drop 1 answers) (after op ops (step_of s op (get_or answers 0 silent)))
prefix_moments n [] op ops s = refl
prefix_moments n (a ∷ answers) op ops s = refl

prefix_config : (n : ℕ) (answers : List Answer) (op : Op) (ops : List Op) (s : State)
    → config_at (suc n) answers (Running (op ∷ ops) s) ≡ config_at n (drop 1 answers) (after op ops (step_of s op (get_or answers 0 silent)))
prefix_config n [] op ops s = refl
prefix_config n (a ∷ answers) op ops s = refl

on_after : (op : Op) (ops : List Op) (x : Stepped) (s : State) → goes_on x ≡ true → after op ops (x, s) ≡ Running (todo_after x (op ∷ ops)) s
on_after op ops stepped.Went s e = refl
on_after op ops stepped.Waiting s e = refl
on_after op ops (stepped.TimedOut name) s e = absurd cc
on_after op ops (stepped.Forbidden rule) s e = absurd cc

off_after : (op : Op) (ops : List Op) (x : Stepped) (s : State) → goes_on x ≡ false → is_over (after op ops (x, s)) ≡ true
off_after op ops stepped.Went s e = absurd cc
off_after op ops stepped.Waiting s e = absurd cc
off_after op ops (stepped.TimedOut name) s e = refl
off_after op ops (stepped.Forbidden rule) s e = refl

-- ---- texts

joined : (xs ys : List TraceLine) → concat (map line_text (xs ++ ys)) ≡ concat (map line_text xs) ++ concat (map line_text ys)
joined [] ys = refl
joined (x ∷ xs) ys = ap (λ (t : List ℕ). line_text x ++ t) (joined xs ys) ∙ sym (append_assoc (line_text x) (concat (map line_text xs)) (concat (map line_text ys)))

text_append : (xs ys : List TraceLine) → text_of (xs ++ ys) ≡ text_of xs ++ text_of ys
unfolding text_of
text_append xs ys = joined xs ys

text_one : (l : TraceLine) → text_of (l ∷ []) ≡ line_text l
unfolding text_of
text_one l = append-nil (line_text l)

text_none : text_of [] ≡ []
unfolding text_of
text_none = refl

pub seen_is : (number : ℕ) (fine : Bool) (op : Op) (s : State) (seen : Seen) (x : Stepped) → IsSeen op s seen → text_of (step_lines number fine op s x) ≡ seen_text number fine seen x
seen_is number fine op s seen stepped.Went h =
    text_one _
    ∙ ap (λ (n : ℕ). line_text (record { said = OpWent number n (word_of s (register_of op)) (source_of s.source) s.latency; legal = fine })) (sym h.at)
    ∙ ap (λ (n : ℕ). line_text (record { said = OpWent number seen.at n (source_of s.source) s.latency; legal = fine })) (sym h.word)
    ∙ ap (λ (c : Src). line_text (record { said = OpWent number seen.at seen.word c s.latency; legal = fine })) (sym h.source)
    ∙ ap (λ (n : ℕ). line_text (record { said = OpWent number seen.at seen.word seen.source n; legal = fine })) (sym h.latency)
seen_is number fine op s seen stepped.Waiting h = text_none
seen_is number fine op s seen (stepped.TimedOut name) h = text_one _
seen_is number fine op s seen (stepped.Forbidden rule) h = text_one _

-- ---- where the code stands

pub record Stands (legal : State → Bool) (over : Bool) (whole out : List ℕ) (number left : ℕ) (fine : Bool) (todo : List Op) (coming : List Answer) (s : State) : Type 0 where
  pub text : whole ≡ out ++ text_of (lines_from legal number fine (moments left coming (Running todo s)))
  pub run : over ≡ is_over (config_at left coming (Running todo s))
  pub small : number + left ≤ 1000001

-- no step is left
pub record Told (over : Bool) (whole out : List ℕ) : Type 0 where
  pub over_is : over ≡ true
  pub whole_is : whole ≡ out

module _ (legal : State → Bool) (over : Bool) (whole out : List ℕ) (number : ℕ) (fine : Bool) where
  no_ops : (todo : List Op) → length todo ≡ 0 → todo ≡ []
  no_ops [] e = refl
  no_ops (op ∷ todo) e = absurd (omega (arith, e))

  pub done : (left : ℕ) (todo : List Op) (coming : List Answer) (s : State) (after : List ℕ) → Stands legal over whole out number left fine todo coming s → length todo ≡ 0
      → after ≡ out ++ (done_text ++ end_text fine) → Told over whole after
  done left todo coming s after h e is =
      let k = subst (λ (os : List Op). Stands legal over whole out number left fine os coming s) (no_ops todo e) h in
      record {
        over_is = k.run ∙ stays_over left coming (Running [] s) refl;
        whole_is =
            k.text ∙ ap (λ (ms : List Moment). out ++ text_of (lines_from legal number fine ms)) (rest_none left coming s)
            ∙ ap (λ (t : List ℕ). out ++ t) (text_one (record { said = RunDone; legal = fine })) ∙ sym is;
      }

  is_going : (n : ℕ) (todo : List Op) (coming : List Answer) (s : State) → 0 < length todo → n ≡ 0 → is_over (config_at n coming (Running todo s)) ≡ false
  is_going n [] coming s l e = absurd (omega (arith, l))
  is_going n (op ∷ todo) coming s l e = ap (λ (k : ℕ). is_over (config_at k coming (Running (op ∷ todo) s))) e

  pub long : (left : ℕ) (todo : List Op) (coming : List Answer) (s : State) → Stands legal over whole out number left fine todo coming s → left ≡ 0 → 0 < length todo → over ≡ false
  long left todo coming s h e l = h.run ∙ is_going left todo coming s l e

  -- what the first step adds, and what is left
  module _ (op : Op) (ops : List Op) (coming : List Answer) (s : State) (n : ℕ) where
    abbrev m : Moment
    m = moment (get_or coming 0 silent) op s

    abbrev now : Bool
    now = fine && is_fine legal m

    abbrev later : Config
    later = after op ops (step_of s op (get_or coming 0 silent))

    goes : goes_on m.stepped ≡ true → Stands legal over whole out number (suc n) fine (op ∷ ops) coming s
        → Stands legal over whole (out ++ text_of (step_lines number now op m.state m.stepped)) (number_after m.stepped number) n (fine_after m.stepped now) (todo_after m.stepped (op ∷ ops)) (drop 1 coming) m.state
    goes e h =
        let on : later ≡ Running (todo_after m.stepped (op ∷ ops)) m.state = on_after op ops m.stepped m.state e in
        let rest = lines_from legal (number_after m.stepped number) (fine_after m.stepped now) (moments n (drop 1 coming) (Running (todo_after m.stepped (op ∷ ops)) m.state)) in
        record {
          text =
              h.text
              ∙ ap (λ (ms : List Moment). out ++ text_of (lines_from legal number fine ms)) (prefix_moments n coming op ops s ∙ ap (λ (c : Config). m ∷ moments n (drop 1 coming) c) on)
              ∙ ap (λ (b : Bool). out ++ text_of (step_lines number now op m.state m.stepped ++ cond b rest [])) e
              ∙ ap (λ (t : List ℕ). out ++ t) (text_append (step_lines number now op m.state m.stepped) rest)
              ∙ sym (append_assoc out (text_of (step_lines number now op m.state m.stepped)) (text_of rest));
          run = h.run ∙ ap is_over (prefix_config n coming op ops s ∙ ap (config_at n (drop 1 coming)) on);
          small = omega (arith, h.small, at_most_one m.stepped);
        }
      where
        at_most_one : (x : Stepped) → number_after x number ≤ number + 1
        at_most_one stepped.Went = omega arith
        at_most_one stepped.Waiting = omega arith
        at_most_one (stepped.TimedOut name) = omega arith
        at_most_one (stepped.Forbidden rule) = omega arith

    ends : goes_on m.stepped ≡ false → Stands legal over whole out number (suc n) fine (op ∷ ops) coming s → Told over whole (out ++ text_of (step_lines number now op m.state m.stepped))
    ends e h =
        let rest = lines_from legal (number_after m.stepped number) (fine_after m.stepped now) (moments n (drop 1 coming) later) in
        record {
          over_is = h.run ∙ ap is_over (prefix_config n coming op ops s) ∙ stays_over n (drop 1 coming) later (off_after op ops m.stepped m.state e);
          whole_is =
              h.text
              ∙ ap (λ (ms : List Moment). out ++ text_of (lines_from legal number fine ms)) (prefix_moments n coming op ops s)
              ∙ ap (λ (b : Bool). out ++ text_of (step_lines number now op m.state m.stepped ++ cond b rest [])) e
              ∙ ap (λ (ls : List TraceLine). out ++ text_of ls) (append-nil (step_lines number now op m.state m.stepped));
        }

    pub goes_by : (left : ℕ) (todo : List Op) (x : Stepped) (b : Bool) (t : State) (more : List ℕ) → left ≡ suc n → todo ≡ op ∷ ops → x ≡ m.stepped → t ≡ m.state → b ≡ now
        → more ≡ out ++ text_of (step_lines number b op t x) → goes_on x ≡ true → Stands legal over whole out number left fine todo coming s
        → Stands legal over whole more (number_after x number) n (fine_after x b) (todo_after x todo) (drop 1 coming) t
    goes_by left todo x b t more el et ex es eb em e h =
        let k = subst (λ (l : ℕ). Stands legal over whole out number l fine (op ∷ ops) coming s) el (subst (λ (os : List Op). Stands legal over whole out number left fine os coming s) et h) in
        let g = goes (sym (ap goes_on ex) ∙ e) k in
        let at_state = subst (λ (u : State). Stands legal over whole (out ++ text_of (step_lines number now op u m.stepped)) (number_after m.stepped number) n (fine_after m.stepped now) (todo_after m.stepped (op ∷ ops)) (drop 1 coming) u) (sym es) g in
        let at_fine = subst (λ (f : Bool). Stands legal over whole (out ++ text_of (step_lines number f op t m.stepped)) (number_after m.stepped number) n (fine_after m.stepped f) (todo_after m.stepped (op ∷ ops)) (drop 1 coming) t) (sym eb) at_state in
        let at_step = subst (λ (y : Stepped). Stands legal over whole (out ++ text_of (step_lines number b op t y)) (number_after y number) n (fine_after y b) (todo_after y (op ∷ ops)) (drop 1 coming) t) (sym ex) at_fine in
        let at_todo = subst (λ (os : List Op). Stands legal over whole (out ++ text_of (step_lines number b op t x)) (number_after x number) n (fine_after x b) (todo_after x os) (drop 1 coming) t) (sym et) at_step in
        subst (λ (o : List ℕ). Stands legal over whole o (number_after x number) n (fine_after x b) (todo_after x todo) (drop 1 coming) t) (sym em) at_todo

    pub ends_by : (left : ℕ) (todo : List Op) (x : Stepped) (b : Bool) (t : State) (more : List ℕ) → left ≡ suc n → todo ≡ op ∷ ops → x ≡ m.stepped → t ≡ m.state → b ≡ now
        → more ≡ out ++ text_of (step_lines number b op t x) → goes_on x ≡ false → Stands legal over whole out number left fine todo coming s → Told over whole more
    ends_by left todo x b t more el et ex es eb em e h =
        let k = subst (λ (l : ℕ). Stands legal over whole out number l fine (op ∷ ops) coming s) el (subst (λ (os : List Op). Stands legal over whole out number left fine os coming s) et h) in
        let g = ends (sym (ap goes_on ex) ∙ e) k in
        let at_state = subst (λ (u : State). Told over whole (out ++ text_of (step_lines number now op u m.stepped))) (sym es) g in
        let at_fine = subst (λ (f : Bool). Told over whole (out ++ text_of (step_lines number f op t m.stepped))) (sym eb) at_state in
        let at_step = subst (λ (y : Stepped). Told over whole (out ++ text_of (step_lines number b op t y))) (sym ex) at_fine in
        subst (Told over whole) (sym em) at_step

-- the same where the values have names of their own
pub moved : (legal : State → Bool) (over : Bool) (whole out : List ℕ) (number left : ℕ) (fine : Bool) (todo : List Op) (coming : List Answer) (s : State) (number1 : ℕ) (fine1 : Bool) (todo1 : List Op) (coming1 : List Answer)
    → Stands legal over whole out number left fine todo coming s → number1 ≡ number → fine1 ≡ fine → todo1 ≡ todo → coming1 ≡ coming → Stands legal over whole out number1 left fine1 todo1 coming1 s
moved legal over whole out number left fine todo coming s number1 fine1 todo1 coming1 h en ef et ec =
    subst (λ (n : ℕ). Stands legal over whole out n left fine1 todo1 coming1 s) (sym en)
    (subst (λ (b : Bool). Stands legal over whole out number left b todo1 coming1 s) (sym ef)
    (subst (λ (os : List Op). Stands legal over whole out number left fine os coming1 s) (sym et)
    (subst (λ (cs : List Answer). Stands legal over whole out number left fine todo cs s) (sym ec) h)))

pub ops_after : (x : Stepped) (todo : List Op) → Each IsOp todo → Each IsOp (drop 1 todo) → Each IsOp (todo_after x todo)
ops_after stepped.Went todo h k = k
ops_after stepped.Waiting todo h k = h
ops_after (stepped.TimedOut name) todo h k = h
ops_after (stepped.Forbidden rule) todo h k = h

-- what a turn did, for the answer that is due and the table and the target that stay
pub record Turned (legal : State → Bool) (m : Moment) (fine : Bool) (turn : Turn) (s : State) : Type 0 where
  pub stepped : turn.stepped ≡ m.stepped
  pub state : s ≡ m.state
  pub fine_is : turn.fine ≡ (fine && is_fine legal m)

pub turned : (t : TableParts) (want : Target) (before after : View) (op : Op) (a b : Answer) (fine : Bool) (turn : Turn) → IsTurn before op a fine after turn → a ≡ b → before.table ≡ t → before.want ≡ want
    → Turned (is_legal t want) (moment b op before.state) fine turn after.state
turned t want before after op a b fine turn h e et ew =
    let k = subst (λ (x : Answer). IsTurn before op x fine after turn) e h in
    record {
      stepped = k.stepped;
      state = k.state;
      fine_is =
          k.fine_is ∙ ap (λ (x : TableParts). fine && is_fine (is_legal x before.want) (moment b op before.state)) et
          ∙ ap (λ (w : Target). fine && is_fine (is_legal t w) (moment b op before.state)) ew;
    }

-- ---- from reset, and what is answered

pub begins : (v : View) (ops : List Op) (answers : List Answer) (left : ℕ) (fine : Bool) (out : List ℕ) → fine ≡ is_legal v.table v.want v.state → left ≡ most → left ≡ 1000000
    → Stands (is_legal v.table v.want) (run_over v ops answers) (out ++ text_of (run_lines v ops answers)) out 1 left fine ops answers v.state
begins v ops answers left fine out ef el e = record {
  text =
      ap (λ (n : ℕ). out ++ text_of (lines_from (is_legal v.table v.want) 1 (is_legal v.table v.want v.state) (moments n answers (Running ops v.state)))) (sym el)
      ∙ ap (λ (b : Bool). out ++ text_of (lines_from (is_legal v.table v.want) 1 b (moments left answers (Running ops v.state)))) (sym ef);
  run = ap (λ (n : ℕ). is_over (config_at n answers (Running ops v.state))) (sym el);
  small = omega (arith, e);
}

-- what was appended to nothing
pub told : (t : TableParts) (want : Target) (ops : List Op) (answers : List Answer) (v : View) (old new : List ℕ) → v ≡ fresh t want → old ≡ [] → run_over v ops answers ≡ true → new ≡ old ++ text_of (run_lines v ops answers) → trace_of t want ops answers ≡ Ok new
unfolding trace_of trace_lines
told t want ops answers v old new is none over text =
    let lines : new ≡ text_of (run_lines (fresh t want) ops answers) = text ∙ ap (λ (o : List ℕ). o ++ text_of (run_lines v ops answers)) none ∙ ap (λ (u : View). text_of (run_lines u ops answers)) is in
    let ended : run_over (fresh t want) ops answers ≡ true = ap (λ (u : View). run_over u ops answers) (sym is) ∙ over in
    ap (λ (b : Bool). cond b (Ok (text_of (run_lines (fresh t want) ops answers))) (Err fault.Long)) ended ∙ ap Ok (sym lines)

pub too_long : (t : TableParts) (want : Target) (ops : List Op) (answers : List Answer) (v : View) → v ≡ fresh t want → run_over v ops answers ≡ false → trace_of t want ops answers ≡ Err fault.Long
unfolding trace_of trace_lines
too_long t want ops answers v is over =
    ap (λ (b : Bool). cond b (Ok (text_of (run_lines (fresh t want) ops answers))) (Err fault.Long)) (ap (λ (u : View). run_over u ops answers) (sym is) ∙ over)

-- what was refused
pub refused : (t : TableParts) (want : Target) (ops : List Op) (answers : List Answer) (v : View) (old new : List ℕ) (e : Refusal TraceFault)
    → v ≡ fresh t want → Traces {X = Unit {0}} v ops answers old new (Err e) → Refuses e (trace_of t want ops answers)
refused t want ops answers v old new (Fault fault.Long) is over = too_long t want ops answers v is over
refused t want ops answers v old new OutOfMemory is over = tt
