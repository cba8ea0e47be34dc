-- The writes of a choice that keeps its limits are sound.
use Rattle.std.proofs.Common.{◌≡◌, ℕ, zero, suc, ◌+◌, ◌<◌, ◌≤◌, ◌==◌, List, [], ◌∷◌, length, Bool, true, false, ◌||◌, not, nat_lt, if◌then◌else◌, Option, Some, inl, inr, refl, sym, ap, subst, ◌∙◌, arith}
use Rattle.std.proofs.lemmas.Bool.{cases_Bool}
use Rattle.std.proofs.lemmas.Bool.Decides.{nat_tests}
use Rattle.res_base.specs.Fraction.{Fraction}
use Rattle.res_model.specs.Valid.{IsRange}
use Rattle.res_model.specs.declared.clock.ClockChoice.{ClockChoice}
use Rattle.res_model.specs.declared.clock.Facts.{Facts}
use Rattle.res_model.specs.declared.table.Bounds.{Bounds}
use Rattle.res_model.specs.declared.table.TableParts.{TableParts}
use Rattle.i2s_pll.specs.declared.choice.I2s.{I2s}
use Rattle.i2s_pll.specs.declared.op.I2sOp.{I2sOp}
use Rattle.i2s_pll.specs.declared.op.I2sOp.TheVariants as op
use Rattle.i2s_pll.specs.declared.op.I2sStep.TheVariants as stepped
use Rattle.i2s_pll.specs.declared.state.State.{State}
use Rattle.i2s_pll.specs.Choices.{IsChoice, KeepsBounds, Meets, i2sclk_of}
use Rattle.i2s_pll.specs.Machine.{IsLegal, done, flagged, is_fit, n_of, poll, r_of, reset_state, word_of}
use Rattle.i2s_pll.specs.Run.{AllCome, AreSound, Config, Running, Done, TimedOut, IsDone, IsEnd, IsFine, IsRight, after, config_at, next, writes_of}

-- ---- the word of N and R
n_is : (n r : ℕ) → n < 512 → r < 8 → n_of (word_of n r) ≡ n
n_is n r h k = omega (arith, h, k)

r_is : (n r : ℕ) → n < 512 → r < 8 → r_of (word_of n r) ≡ r
r_is n r h k = omega (arith, h, k)

-- ---- tests
not_zero : (a : ℕ) → 0 < a → (a == 0) ≡ false
not_zero a l = grind (arith, nat_tests)

not_less : (a b : ℕ) → b ≤ a → nat_lt a b ≡ false
not_less a b l = grind (arith, nat_tests)

-- ---- runs

-- what each step keeps holds at each moment
always : (Inv : Config → Type 0) → ((c : Config) → Inv c → (comes : Bool) → Inv (next comes c)) → (n : ℕ) (flags : List Bool) (c : Config) → Inv c → Inv (config_at n flags c)
always Inv keeps zero flags c h = h
always Inv keeps (suc n) [] c h = always Inv keeps n [] (next false c) (keeps c h false)
always Inv keeps (suc n) (comes ∷ flags) c h = always Inv keeps n flags (next comes c) (keeps c h comes)

abbrev Ends : Config → Type 0
Ends c = (flags : List Bool) → (n : ℕ) × IsEnd (config_at n flags c)

ends_later : (c : Config) → ((comes : Bool) → Ends (next comes c)) → Ends c
ends_later c h [] = let k = h false [] in (suc k.0, k.1)
ends_later c h (comes ∷ flags) = let k = h comes flags in (suc k.0, k.1)

-- ---- the states on the way, for a word that is fit and a number of polls

abbrev set_state : ℕ → State
set_state w = record { config = w; on = false; ready = false; polls = 0 }

abbrev waiting_state : ℕ → ℕ → State
waiting_state w k = record { config = w; on = true; ready = false; polls = k }

abbrev ready_state : ℕ → State
ready_state w = record { config = w; on = true; ready = true; polls = 0 }

abbrev ops_of : ℕ → ℕ → List I2sOp
ops_of w polls = op.Config w ∷ op.On ∷ op.Await polls ∷ []

data Stage (w polls : ℕ) (c : Config) : Type 0 where
  unset : c ≡ Running (ops_of w polls) reset_state → Stage w polls c
  off : c ≡ Running (op.On ∷ op.Await polls ∷ []) (set_state w) → Stage w polls c
  waits : (k : ℕ) → c ≡ Running (op.Await polls ∷ []) (waiting_state w k) → Stage w polls c
  ready : c ≡ Running [] (ready_state w) → Stage w polls c
  ended : c ≡ Done (ready_state w) → Stage w polls c
  late : c ≡ TimedOut (waiting_state w 0) → Stage w polls c

module _ (w polls : ℕ) (fit : is_fit w ≡ true) (some : 0 < polls) where
  not_none : (polls == 0) ≡ false
  not_none = not_zero polls some

  -- a step, by the test that allows it
  abbrev configured : Bool → Bool → Config
  configured comes fits =
      after (op.Config w) (op.On ∷ op.Await polls ∷ [])
      (if (false || not fits) then (stepped.Forbidden, flagged comes reset_state) else done (flagged comes reset_state) (op.Config w))

  abbrev awaited : ℕ → Bool → Bool → Config
  awaited k comes never =
      after (op.Await polls) [] (if (never || false) then (stepped.Forbidden, flagged comes (waiting_state w k)) else poll (flagged comes (waiting_state w k)) polls)

  abbrev polled : ℕ → Bool → Config
  polled k more = after (op.Await polls) [] (if more then (stepped.Waiting, waiting_state w (k + 1)) else (stepped.TimedOut, waiting_state w 0))

  from_unset : (comes : Bool) → next comes (Running (ops_of w polls) reset_state) ≡ Running (op.On ∷ op.Await polls ∷ []) (set_state w)
  from_unset true = ap (configured true) fit
  from_unset false = ap (configured false) fit

  from_off : (comes : Bool) → next comes (Running (op.On ∷ op.Await polls ∷ []) (set_state w)) ≡ Running (op.Await polls ∷ []) (waiting_state w 0)
  from_off true = refl
  from_off false = refl

  when_comes : (k : ℕ) → next true (Running (op.Await polls ∷ []) (waiting_state w k)) ≡ Running [] (ready_state w)
  when_comes k = ap (awaited k true) not_none

  while_more : (k : ℕ) → nat_lt (k + 1) polls ≡ true
      → next false (Running (op.Await polls ∷ []) (waiting_state w k)) ≡ Running (op.Await polls ∷ []) (waiting_state w (k + 1))
  while_more k h = ap (awaited k false) not_none ∙ ap (polled k) h

  at_last : (k : ℕ) → nat_lt (k + 1) polls ≡ false → next false (Running (op.Await polls ∷ []) (waiting_state w k)) ≡ TimedOut (waiting_state w 0)
  at_last k h = ap (awaited k false) not_none ∙ ap (polled k) h

  goes_on : (c : Config) → Stage w polls c → (comes : Bool) → Stage w polls (next comes c)
  goes_on c (unset e) comes = off (ap (next comes) e ∙ from_unset comes)
  goes_on c (off e) comes = waits 0 (ap (next comes) e ∙ from_off comes)
  goes_on c (waits k e) true = ready (ap (next true) e ∙ when_comes k)
  goes_on c (waits k e) false = elim (cases_Bool (nat_lt (k + 1) polls)) [
    | inl y ↦ waits (k + 1) (ap (next false) e ∙ while_more k y)
    | inr n ↦ late (ap (next false) e ∙ at_last k n)
  ]
  goes_on c (ready e) comes = ended (ap (next comes) e)
  goes_on c (ended e) comes = ended (ap (next comes) e)
  goes_on c (late e) comes = late (ap (next comes) e)

  -- ---- ends
  ready_ends : Ends (Running [] (ready_state w))
  ready_ends = ends_later (Running [] (ready_state w)) (λ comes flags. (0, tt))

  waiting_ends : (m k : ℕ) → k + m ≡ polls → Ends (Running (op.Await polls ∷ []) (waiting_state w k))
  waiting_ends zero k e = ends_later (Running (op.Await polls ∷ []) (waiting_state w k)) (λ comes. turn comes)
    where
      turn : (comes : Bool) → Ends (next comes (Running (op.Await polls ∷ []) (waiting_state w k)))
      turn true = subst Ends (sym (when_comes k)) ready_ends
      turn false = let h : nat_lt (k + 1) polls ≡ false = not_less (k + 1) polls (omega (arith, e)) in subst Ends (sym (at_last k h)) (λ flags. (0, tt))
  waiting_ends (suc m) k e = ends_later (Running (op.Await polls ∷ []) (waiting_state w k)) (λ comes. turn (waiting_ends m (k + 1) (omega (arith, e))) comes)
    where
      turn : Ends (Running (op.Await polls ∷ []) (waiting_state w (k + 1))) → (comes : Bool) → Ends (next comes (Running (op.Await polls ∷ []) (waiting_state w k)))
      turn rest true = subst Ends (sym (when_comes k)) ready_ends
      turn rest false = elim (cases_Bool (nat_lt (k + 1) polls)) [
        | inl y ↦ subst Ends (sym (while_more k y)) rest
        | inr n ↦ subst Ends (sym (at_last k n)) (λ flags. (0, tt))
      ]

  pub all_end : Ends (Running (ops_of w polls) reset_state)
  all_end =
      ends_later (Running (ops_of w polls) reset_state) (λ comes. subst Ends (sym (from_unset comes))
      (ends_later (Running (op.On ∷ op.Await polls ∷ []) (set_state w)) (λ again. subst Ends (sym (from_off again)) (waiting_ends polls 0 (omega arith)))))

  -- ---- where the flag comes at each step
  three_steps : (rest : List Bool) → config_at 4 (true ∷ true ∷ true ∷ rest) (Running (ops_of w polls) reset_state) ≡ config_at 1 rest (Running [] (ready_state w))
  three_steps rest =
      ap (λ c. config_at 3 (true ∷ true ∷ rest) c) (from_unset true) ∙ ap (λ c. config_at 2 (true ∷ rest) c) (from_off true)
      ∙ ap (λ c. config_at 1 rest c) (when_comes 0)

  last_step : (rest : List Bool) → IsDone (config_at 1 rest (Running [] (ready_state w)))
  last_step [] = tt
  last_step (comes ∷ rest) = tt

  pub all_prompt : (flags : List Bool) → AllCome flags → 3 ≤ length flags → (n : ℕ) × IsDone (config_at n flags (Running (ops_of w polls) reset_state))
  all_prompt [] a l = absurd (omega (arith, l))
  all_prompt (x ∷ []) a l = absurd (omega (arith, l))
  all_prompt (x ∷ y ∷ []) a l = absurd (omega (arith, l))
  all_prompt (true ∷ true ∷ true ∷ rest) a l = (4, subst IsDone (sym (three_steps rest)) (last_step rest))
  all_prompt (false ∷ y ∷ z ∷ rest) a l = let e : false ≡ true = a.0 in absurd (cc)
  all_prompt (true ∷ false ∷ z ∷ rest) a l = let e : false ≡ true = a.1.0 in absurd (cc)
  all_prompt (true ∷ true ∷ false ∷ rest) a l = let e : false ≡ true = a.1.1.0 in absurd (cc)

  -- ---- each moment
  module _ (legal right : State → Type 0) (reset : legal reset_state) (set : legal (set_state w)) (set_flag : (comes : Bool) → legal (flagged comes (set_state w)))
      (reset_flag : (comes : Bool) → legal (flagged comes reset_state)) (waiting : (k : ℕ) → legal (waiting_state w k))
      (waiting_flag : (k : ℕ) (comes : Bool) → legal (flagged comes (waiting_state w k))) (arrived : legal (ready_state w)) (is_right : right (ready_state w)) where
    is_fine : (c : Config) → Stage w polls c → IsFine legal right c
    is_fine c (unset e) = subst (IsFine legal right) (sym e) (reset, reset_flag)
    is_fine c (off e) = subst (IsFine legal right) (sym e) (set, set_flag)
    is_fine c (waits k e) = subst (IsFine legal right) (sym e) (waiting k, waiting_flag k)
    is_fine c (ready e) = subst (IsFine legal right) (sym e) arrived
    is_fine c (ended e) = subst (IsFine legal right) (sym e) (arrived, is_right)
    is_fine c (late e) = subst (IsFine legal right) (sym e) (waiting 0)

    pub all_fine : (flags : List Bool) (n : ℕ) → IsFine legal right (config_at n flags (Running (ops_of w polls) reset_state))
    all_fine flags n = is_fine _ (always (Stage w polls) goes_on n flags (Running (ops_of w polls) reset_state) (unset refl))

-- ---- the law

fits : (n r : ℕ) → 50 ≤ n → n ≤ 432 → 2 ≤ r → r ≤ 7 → is_fit (word_of n r) ≡ true
fits n r a b c d =
    let e = n_is n r (omega (arith, b)) (omega (arith, d)) in
    let f = r_is n r (omega (arith, b)) (omega (arith, d)) in
    tested (word_of n r) n r e f refl a b c
  where
    tested : (w n r : ℕ) → n_of w ≡ n → r_of w ≡ r → w ≡ word_of n r → 50 ≤ n → n ≤ 432 → 2 ≤ r → is_fit w ≡ true
    tested w n r e f is a b c = grind (arith, nat_tests, e, f, is, a, b, c)

pub fits_registers : (t : TableParts) (f : Facts) (home : ClockChoice) (x : I2s) → IsRange 50 432 t.clock.n → Meets t f home x → IsChoice x
fits_registers t f home x n meets =
    let a = n.least in let b = n.greatest in let p = meets.n.0 in let q = meets.n.1 in
    record { n = (omega (arith, a, p), omega (arith, b, q)); dividers = meets.dividers }

module _ (limits : Bounds) (input : Fraction) (x : I2s) (choice : IsChoice x) (bounds : KeepsBounds limits input x.n x.r) where
  in_word : KeepsBounds limits input (n_of (word_of x.n x.r)) (r_of (word_of x.n x.r))
  in_word =
      let e = n_is x.n x.r (omega (arith, choice.n)) (omega (arith, choice.dividers.r)) in
      let f = r_is x.n x.r (omega (arith, choice.n)) (omega (arith, choice.dividers.r)) in
      subst (λ (n : ℕ). KeepsBounds limits input n (r_of (word_of x.n x.r))) (sym e) (subst (λ (r : ℕ). KeepsBounds limits input x.n r) (sym f) bounds)

  clock : ◌≡◌ {A = Option Fraction} (Some (i2sclk_of input (n_of (word_of x.n x.r)) (r_of (word_of x.n x.r)))) (Some (i2sclk_of input x.n x.r))
  clock =
      let e = n_is x.n x.r (omega (arith, choice.n)) (omega (arith, choice.dividers.r)) in
      let f = r_is x.n x.r (omega (arith, choice.n)) (omega (arith, choice.dividers.r)) in
      ap (λ (n : ℕ). Some (i2sclk_of input n (r_of (word_of x.n x.r)))) e ∙ ap (λ (r : ℕ). Some (i2sclk_of input x.n r)) f

  fit : is_fit (word_of x.n x.r) ≡ true
  fit = fits x.n x.r choice.n.0 choice.n.1 choice.dividers.r.0 choice.dividers.r.1

  pub sound : AreSound limits input x (writes_of x)
  sound = record {
    fine = λ flags n. all_fine (word_of x.n x.r) 10000 fit (omega arith) (IsLegal limits input) (IsRight input x)
        (λ h. absurd (cc)) (λ h. absurd (cc)) (λ comes h. absurd (cc)) (λ comes h. absurd (cc))
        (λ k h. in_word) (λ k comes h. in_word) (λ h. in_word) record { ready = refl; clock = clock } flags n;
    ends = λ flags. all_end (word_of x.n x.r) 10000 fit (omega arith) flags;
    prompt = λ flags a l. all_prompt (word_of x.n x.r) 10000 fit (omega arith) flags a l;
  }
