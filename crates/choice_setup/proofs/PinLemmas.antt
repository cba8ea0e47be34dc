-- What the signals set up, a signal at a time from the last.
use Rattle.std.proofs.Common.{◌≡◌, ◌≢◌, ℕ, zero, suc, ◌+◌, ◌*◌, ◌<◌, ◌≤◌, ◌==◌, List, [], ◌∷◌, length, map, get_or, set, replicate, drop, Bool, true, false, cond, Option, Some, None, refl, sym, subst, ap, ◌∙◌, arith, add-one, get_or-drop}
use Rattle.std.proofs.Math.Seq.{drop-cons, drop-length}
use Rattle.std.proofs.lemmas.Bool.Decides.{nat_tests}
use Rattle.std.proofs.lemmas.Grind.{get_or-set_at}
use Rattle.std.proofs.lemmas.List.{ext_get_or, get_or-set_other, length-set}
use Rattle.std.specs.Option.{option_map_or}
use Rattle.std.specs.Prelude.{option_map, slice_get, slice_index, slice_index_or}
use Rattle.res_base.specs.Lists.{Each}
use Rattle.res_model.specs.Placement.{uses_at}
use Rattle.res_model.specs.declared.project.Signal.{Signal}
use Rattle.res_model.specs.declared.table.Pin.{Pin}
use Rattle.res_model.specs.declared.table.PinUse.{PinUse}
use Rattle.res_model.specs.declared.table.TableParts.{TableParts}
use Rattle.init_gen.specs.declared.setting.Setup.{Setup}
use Rattle.choice_rank.specs.Choices.{IsChoice}
use Rattle.problem.proofs.ChosenLemmas.{places_length, uses_next}
use Rattle.problem.specs.ClockValues.{numbers_from}
use Rattle.problem.specs.Meets.{places_of, use_of}
use Rattle.problem.specs.Problem.{IsProblem}
use Rattle.problem.specs.declared.parts.ProblemParts.{ProblemParts}
use Rattle.choice_setup.specs.SetUp.{place_of, places, setup_at, setup_of, setups_from, setups_of}

-- ---- pins and their uses

pub place_is : (o : Option Pin) (spot : ℕ × ℕ) → option_map (λ (p : Pin). (p.port, p.number)) o ≡ Some spot → option_map_or (λ (p : Pin). p.port * 16 + p.number) o 0 ≡ spot.0 * 16 + spot.1
place_is None spot e = absurd cc
place_is (Some p) spot e = let same : (p.port, p.number) ≡ spot = cc in ap (λ (q : ℕ × ℕ). q.0 * 16 + q.1) same

each_row : {X : Type 0} (P : X → Type 0) (xss : List (List X)) (k : ℕ) → Each (λ xs. Each P xs) xss → Each P (get_or xss k [])
each_row P [] k h = tt
each_row P (xs ∷ xss) zero h = h.0
each_row P (xs ∷ xss) (suc k) h = each_row P xss k h.1

each_got : {X : Type 0} (P : X → Type 0) (xs : List X) (i : ℕ) (x : X) → Each P xs → slice_get xs i ≡ Some x → P x
each_got P [] i x h e = absurd cc
each_got P (y ∷ ys) zero x h e = let same : y ≡ x = cc in subst P same h.0
each_got P (y ∷ ys) (suc i) x h e = each_got P ys i x h.1 e

-- a signal's pin is of the table
pub pin_there : (p : ProblemParts) (at : List ℕ) (k : ℕ) (u : PinUse) → IsProblem p → use_of p at k ≡ Some u → u.pin < length p.tables.pins
pin_there p at k u agree e =
    each_got (λ (w : PinUse). w.pin < length p.tables.pins) (slice_index_or p.uses k []) (slice_index at (p.first + k)) u
    (each_row (λ (w : PinUse). w.pin < length p.tables.pins) p.uses k agree.pins) e

-- the uses from a signal on are that of the signal and the later ones
pub uses_from : (p : ProblemParts) (at : List ℕ) (k : ℕ) (u : PinUse) → IsProblem p → IsChoice p.shape at → k < length p.signals → use_of p at k ≡ Some u → uses_at (drop k p.uses) (drop k (places_of p at)) ≡ u ∷ uses_at (drop (k + 1) p.uses) (drop (k + 1) (places_of p at))
uses_from p at k u agree choice l e =
    let many = places_length p agree at choice in
    uses_next p.uses (places_of p at) k u (omega (arith, l, agree.signals)) (omega (arith, l, many)) (ap (λ (n : ℕ). slice_get (get_or p.uses k []) n) (get_or-drop p.first at k 0) ∙ e)
    ∙ ap (λ (n : ℕ). u ∷ uses_at (drop n p.uses) (drop n (places_of p at))) (sym (add-one k))

-- ---- setups by place

at_place : (f : ℕ → Option Setup) (n a i k : ℕ) → a + i ≡ k → i < n → ◌≡◌ {A = Option Setup} (get_or (map f (numbers_from n a)) i None) (f k)
at_place f zero a i k e l = absurd (omega (arith, l))
at_place f (suc n) a zero k e l = let same : a ≡ k = omega (arith, e) in ap f same
at_place f (suc n) a (suc i) k e l = at_place f n (a + 1) i k (omega (arith, e)) (omega (arith, l))

long : (f : ℕ → Option Setup) (n a : ℕ) → length (map f (numbers_from n a)) ≡ n
long f zero a = refl
long f (suc n) a = ap suc (long f n (a + 1))

-- without signals nothing is set up
unset : (t : TableParts) (us : List PinUse) (n a : ℕ) → map (setup_at t [] us) (numbers_from n a) ≡ replicate n None
unset t us zero a = refl
unset t us (suc n) a = ap (λ (xs : List (Option Setup)). None ∷ xs) (unset t us n (a + 1))

module _ (t : TableParts) (s : Signal) (ss : List Signal) (u : PinUse) (us : List PinUse) (n : ℕ) (within : place_of t u.pin < n) where
  abbrev later : List (Option Setup)
  later = map (setup_at t ss us) (numbers_from n 0)

  prefix_at : (i : ℕ) → i < n → ◌≡◌ {A = Option Setup} (get_or (set later (place_of t u.pin) (Some (setup_of t s u))) i None) (setup_at t (s ∷ ss) (u ∷ us) i)
  prefix_at i l = case (place_of t u.pin == i) refl
    where
      case : (b : Bool) → (place_of t u.pin == i) ≡ b → ◌≡◌ {A = Option Setup} (get_or (set later (place_of t u.pin) (Some (setup_of t s u))) i None) (cond b (Some (setup_of t s u)) (setup_at t ss us i))
      case true q =
          let same : i ≡ place_of t u.pin = grind (arith, nat_tests, q) in
          get_or-set_at later (place_of t u.pin) i (Some (setup_of t s u)) None same (omega (arith, within, long (setup_at t ss us) n 0))
      case false q =
          let apart : i ≢ place_of t u.pin = λ e. grind (arith, nat_tests, q, e) in
          get_or-set_other later (place_of t u.pin) i (Some (setup_of t s u)) None apart ∙ at_place (setup_at t ss us) n 0 i i (omega arith) l

  prefix_map : set later (place_of t u.pin) (Some (setup_of t s u)) ≡ map (setup_at t (s ∷ ss) (u ∷ us)) (numbers_from n 0)
  prefix_map =
      let size = length-set later (place_of t u.pin) (Some (setup_of t s u)) ∙ long (setup_at t ss us) n 0 in
      ext_get_or None (set later (place_of t u.pin) (Some (setup_of t s u))) (map (setup_at t (s ∷ ss) (u ∷ us)) (numbers_from n 0))
      (size ∙ sym (long (setup_at t (s ∷ ss) (u ∷ us)) n 0))
      (λ i l. let below : i < n = omega (arith, l, size) in prefix_at i below ∙ sym (at_place (setup_at t (s ∷ ss) (u ∷ us)) n 0 i i (omega arith) below))

prefix_set : (t : TableParts) (s : Signal) (ss : List Signal) (u : PinUse) (us : List PinUse) → place_of t u.pin < 144 → set (setups_of t ss us) (place_of t u.pin) (Some (setup_of t s u)) ≡ setups_of t (s ∷ ss) (u ∷ us)
unfolding setups_of places
prefix_set t s ss u us within = prefix_map t s ss u us 144 within

none_set : (t : TableParts) (us : List PinUse) → setups_of t [] us ≡ replicate 144 None
unfolding setups_of places
none_set t us = unset t us 144 0

-- ---- setups from a signal on

pub signal_set : (p : ProblemParts) (at : List ℕ) (k place : ℕ) (s : Signal) (u : PinUse) → k < length p.signals → s ≡ get_or p.signals k s
    → uses_at (drop k p.uses) (drop k (places_of p at)) ≡ u ∷ uses_at (drop (k + 1) p.uses) (drop (k + 1) (places_of p at))
    → place ≡ place_of p.tables u.pin → place < 144 → set (setups_from p at (k + 1)) place (Some (setup_of p.tables s u)) ≡ setups_from p at k
unfolding setups_from
signal_set p at k place s u l is used there within =
    let ss = drop (k + 1) p.signals in
    let us = uses_at (drop (k + 1) p.uses) (drop (k + 1) (places_of p at)) in
    let here : place_of p.tables u.pin < 144 = omega (arith, there, within) in
    let signals : s ∷ ss ≡ drop k p.signals = ap (λ (x : Signal). x ∷ ss) is ∙ ap (λ (n : ℕ). get_or p.signals k s ∷ drop n p.signals) (add-one k) ∙ sym (drop-cons p.signals k s l) in
    ap (λ (n : ℕ). set (setups_of p.tables ss us) n (Some (setup_of p.tables s u))) there
    ∙ prefix_set p.tables s ss u us here
    ∙ ap (λ (xs : List Signal). setups_of p.tables xs (u ∷ us)) signals
    ∙ ap (λ (xs : List PinUse). setups_of p.tables (drop k p.signals) xs) (sym used)

pub record SetupsSoFar (p : ProblemParts) (at : List ℕ) (k : ℕ) (setups : List (Option Setup)) : Type 0 where
  pub in_range : k ≤ length p.signals
  pub setups_are : setups ≡ setups_from p at k

pub nothing_set : (p : ProblemParts) (at : List ℕ) (k : ℕ) → k ≡ length p.signals → SetupsSoFar p at k (replicate 144 None)
unfolding setups_from
nothing_set p at k e = record {
  in_range = omega (arith, e);
  setups_are =
      let us = uses_at (drop k p.uses) (drop k (places_of p at)) in
      let left : [] ≡ drop k p.signals = sym (drop-length p.signals) ∙ ap (λ (n : ℕ). drop n p.signals) (sym e) in
      sym (none_set p.tables us) ∙ ap (λ (xs : List Signal). setups_of p.tables xs us) left;
}

pub all_set : (p : ProblemParts) (at : List ℕ) → setups_from p at 0 ≡ setups_of p.tables p.signals (uses_at p.uses (places_of p at))
unfolding setups_from
all_set p at = refl
