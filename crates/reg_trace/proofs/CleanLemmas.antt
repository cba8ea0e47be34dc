-- A sound run tells of no fault.
use Rattle.std.proofs.Common.{◌≡◌, ℕ, zero, suc, List, [], ◌∷◌, ◌++◌, Bool, true, false, ◌&&◌, cond, refl}
use Rattle.res_base.specs.Lists.{Each}
use Rattle.res_model.specs.declared.table.TableParts.{TableParts}
use Rattle.reg_machine.specs.Legal.{IsLegal, is_legal}
use Rattle.reg_machine.specs.Reset.{reset_of}
use Rattle.reg_machine.specs.Run.{Config, Running, Done, TimedOut, Forbidden, IsFine, Sound, after, config_at, next, silent}
use Rattle.reg_machine.specs.Step.{flags, step_of}
use Rattle.reg_machine.specs.declared.op.Answer.{Answer}
use Rattle.reg_machine.specs.declared.op.Op.{Op}
use Rattle.reg_machine.specs.declared.op.Stepped.{Stepped}
use Rattle.reg_machine.specs.declared.op.Stepped.TheVariants as stepped
use Rattle.reg_machine.specs.declared.state.State.{State}
use Rattle.reg_machine.specs.declared.state.Target.{Target}
use Rattle.reg_machine.proofs.LegalLemmas.{legal_says}
use Rattle.reg_trace.specs.Clean.{IsClean}
use Rattle.reg_trace.specs.Lines.{TraceLine}
use Rattle.reg_trace.specs.Reading.{most}
use Rattle.reg_trace.specs.Trace.{Moment, fine_after, goes_on, is_fine, lines_from, moment, moment_of, moments, number_after, step_lines, trace_lines}

each_both : (xs ys : List TraceLine) → Each IsClean xs → Each IsClean ys → Each IsClean (xs ++ ys)
each_both [] ys h k = k
each_both (x ∷ xs) ys h k = (h.0, each_both xs ys h.1 k)

both_true : (a b c : Bool) → a ≡ true → b ≡ true → c ≡ true → (a && (b && c)) ≡ true
both_true a b c ea eb ec = rw (ea, eb, ec) refl

module _ (legal : State → Bool) (good right : State → Type 0) (says : (s : State) → good s → legal s ≡ true) where
  -- what a sound run shows from a place on
  abbrev Shows : Config → Type 0
  Shows c = (answers : List Answer) (n : ℕ) → IsFine good right (config_at n answers c)

  good_flags : (op : Op) (ops : List Op) (s : State) (a : Answer) → IsFine good right (Running (op ∷ ops) s) → good (flags a s)
  good_flags op ops s a h = h.1 a

  good_now : (ops : List Op) (s : State) → IsFine good right (Running ops s) → good s
  good_now [] s h = h
  good_now (op ∷ ops) s h = h.0

  good_after : (op : Op) (ops : List Op) (x : Stepped) (s : State) → IsFine good right (after op ops (x, s)) → good s
  good_after op ops stepped.Went s h = good_now ops s h
  good_after op ops stepped.Waiting s h = h.0
  good_after op ops (stepped.TimedOut name) s h = h
  good_after op ops (stepped.Forbidden rule) s h = absurd h

  -- the lines of a step, where the states of it are legal
  clean_step : (op : Op) (ops : List Op) (x : Stepped) (s : State) (number : ℕ) (fine : Bool) → fine ≡ true → IsFine good right (after op ops (x, s)) → Each IsClean (step_lines number fine op s x)
  clean_step op ops stepped.Went s number fine e h = (record { legal = e; allowed = tt }, tt)
  clean_step op ops stepped.Waiting s number fine e h = tt
  clean_step op ops (stepped.TimedOut name) s number fine e h = (record { legal = e; allowed = tt }, tt)
  clean_step op ops (stepped.Forbidden rule) s number fine e h = absurd h

  fine_stays : (x : Stepped) (fine : Bool) → fine ≡ true → fine_after x fine ≡ true
  fine_stays stepped.Went fine e = refl
  fine_stays stepped.Waiting fine e = e
  fine_stays (stepped.TimedOut name) fine e = e
  fine_stays (stepped.Forbidden rule) fine e = e

  clean_rest : (b : Bool) (lines : List TraceLine) → Each IsClean lines → Each IsClean (cond b lines [])
  clean_rest true lines h = h
  clean_rest false lines h = tt

  -- the lines from a step on, where those behind it are clean
  clean_moment : (a : Answer) (ms : List Moment) (c : Config) (number : ℕ) (fine : Bool) → fine ≡ true → Shows c → Shows (next a c)
      → ((k : ℕ) (f : Bool) → f ≡ true → Each IsClean (lines_from legal k f ms)) → Each IsClean (lines_from legal number fine (moment_of a c ++ ms))
  clean_moment a ms (Running [] s) number fine e h k rest = rest number fine e
  clean_moment a ms (Done s) number fine e h k rest = rest number fine e
  clean_moment a ms (TimedOut name s) number fine e h k rest = rest number fine e
  clean_moment a ms (Forbidden rule s) number fine e h k rest = rest number fine e
  clean_moment a ms (Running (op ∷ ops) s) number fine e h k rest =
      let x = (step_of s op a).0 in
      let t = (step_of s op a).1 in
      let now = fine && is_fine legal (moment a op s) in
      let behind : IsFine good right (after op ops (x, t)) = k [] 0 in
      let is : now ≡ true = both_true fine (legal (flags a s)) (legal t) e (says (flags a s) (good_flags op ops s a (h [] 0))) (says t (good_after op ops x t behind)) in
      each_both (step_lines number now op t x) (cond (goes_on x) (lines_from legal (number_after x number) (fine_after x now) ms) [])
      (clean_step op ops x t number now is behind)
      (clean_rest (goes_on x) (lines_from legal (number_after x number) (fine_after x now) ms) (rest (number_after x number) (fine_after x now) (fine_stays x now is)))

  clean_from : (n : ℕ) (answers : List Answer) (c : Config) (number : ℕ) (fine : Bool) → fine ≡ true → Shows c → Each IsClean (lines_from legal number fine (moments n answers c))
  clean_from zero answers c number fine e h = (record { legal = e; allowed = tt }, tt)
  clean_from (suc n) [] c number fine e h =
      let k : Shows (next silent c) = λ more m. h (silent ∷ more) (suc m) in
      clean_moment silent (moments n [] (next silent c)) c number fine e h k (λ j f ef. clean_from n [] (next silent c) j f ef k)
  clean_from (suc n) (a ∷ answers) c number fine e h =
      let k : Shows (next a c) = λ more m. h (a ∷ more) (suc m) in
      clean_moment a (moments n answers (next a c)) c number fine e h k (λ j f ef. clean_from n answers (next a c) j f ef k)

pub sound_is_clean : (t : TableParts) (want : Target) (right : State → Type 0) (ops : List Op) (answers : List Answer) → Sound (IsLegal t want) right ops (reset_of t want) → Each IsClean (trace_lines t want ops answers)
unfolding trace_lines
sound_is_clean t want right ops answers sound =
    let says : (s : State) → IsLegal t want s → is_legal t want s ≡ true = λ s h. (legal_says t want s).1 h in
    clean_from (is_legal t want) (IsLegal t want) right says most answers (Running ops (reset_of t want)) 1 (is_legal t want (reset_of t want))
    (says (reset_of t want) (good_now (is_legal t want) (IsLegal t want) right says ops (reset_of t want) (sound.fine [] 0)))
    (λ more n. sound.fine more n)
