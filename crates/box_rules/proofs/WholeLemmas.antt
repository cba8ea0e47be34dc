-- That the meaning of a judge of pins and clocks is lawful.
use Rattle.std.proofs.Common.{◌≡◌, ℕ, ◌<◌, ◌==◌, ◌||◌, List, Bool, true, false, not, Option, Some, None, refl, sym, subst, ap, ◌∙◌, take, drop, arith}
use Rattle.std.specs.Prelude.{is_none}
use Rattle.std.proofs.lemmas.Bool.Decides.{nat_tests}
use Rattle.res_base.specs.declared.var_set.VarSet.{VarSet}
use Rattle.box_split.specs.Boxes.{Run, IsBox, LiesIn, is_single, lows}
use Rattle.clock_limits.specs.Laws.{IsLeastBroken}
use Rattle.clock_limits.proofs.RefutingLemmas.{refuting_is_broken}
use Rattle.clock_limits.proofs.SingleLemmas.{one_choice_is_exact}
use Rattle.clock_limits.proofs.LeastLemmas.{broken_is_least, refuting_is_least}
use Rattle.problem.specs.declared.parts.ProblemParts.{ProblemParts}
use Rattle.problem.specs.ClockValues.{clock_at}
use Rattle.problem.specs.Meets.{meets}
use Rattle.problem.specs.Problem.{HaveValues}
use Rattle.res_model.specs.declared.clock.ClockChoice.{ClockChoice}
use Rattle.res_model.specs.Limits.{broken_limit, meets_limit}
use Rattle.res_model.specs.Placement.{fits, uses_at}
use Rattle.clock_limits.specs.Ranges.{IsClockBox, IsIn, IsOnePlace, limit_refutes, refuting_limit}
use Rattle.search_api.specs.declared.verdict.Class.TheVariants.{Pins, Exti}
use Rattle.search_api.specs.declared.verdict.Reason.{Reason}
use Rattle.search_api.specs.declared.verdict.Reason.TheVariants.{Hall, Limit}
use Rattle.search_api.specs.declared.verdict.Verdict.TheVariants.{Bad, Legal, Open}
use Rattle.search_api.specs.Meaning.{IsLawful}
use Rattle.box_rules.specs.Contest.{hall_in}
use Rattle.box_rules.specs.Judged.{IsWhole, clock_box, contest, refutes_whole, whole_meaning, whole_verdict_from}
use Rattle.box_rules.proofs.ClockLemmas.{IsPlaced, clock_in, one_at, placed_at}
use Rattle.box_rules.proofs.ContestLemmas.{lows_lie}
use Rattle.box_rules.proofs.CountLemmas.{both}
use Rattle.box_rules.proofs.LawLemmas.{hall_bad, hall_none, lows_fit, meets_fits}

bad_from : (pins lines : Option VarSet) (limit : Option ℕ) (single : Bool) (reason : Reason) (P : Reason → Type 0)
    → ((vars : VarSet) → pins ≡ Some vars → P (Hall Pins vars)) → ((vars : VarSet) → lines ≡ Some vars → P (Hall Exti vars)) → ((k : ℕ) → limit ≡ Some k → P (Limit k))
    → whole_verdict_from pins lines limit single ≡ Bad reason → P reason
bad_from (Some vars) lines limit single reason P p q l e = let r : Hall Pins vars ≡ reason = cc (e) in subst P r (p vars refl)
bad_from None (Some vars) limit single reason P p q l e = let r : Hall Exti vars ≡ reason = cc (e) in subst P r (q vars refl)
bad_from None None (Some k) single reason P p q l e = let r : Limit k ≡ reason = cc (e) in subst P r (l k refl)
bad_from None None None true reason P p q l e = cc
bad_from None None None false reason P p q l e = cc

legal_from : (pins lines : Option VarSet) (limit : Option ℕ) (single : Bool) → whole_verdict_from pins lines limit single ≡ Legal → (pins ≡ None) × (lines ≡ None) × (limit ≡ None) × (single ≡ true)
legal_from (Some vars) lines limit single e = cc
legal_from None (Some vars) limit single e = cc
legal_from None None (Some k) single e = cc
legal_from None None None true e = (refl, refl, refl, refl)
legal_from None None None false e = cc

open_from : (pins lines : Option VarSet) (limit : Option ℕ) (single : Bool) → whole_verdict_from pins lines limit single ≡ Open → single ≡ false
open_from (Some vars) lines limit single e = cc
open_from None (Some vars) limit single e = cc
open_from None None (Some k) single e = cc
open_from None None None true e = cc
open_from None None None false e = refl

is_none_none : (o : Option ℕ) → is_none o ≡ true → o ≡ None
is_none_none None e = refl
is_none_none (Some k) e = cc

contradict : {A : Type 0} (b : Bool) → b ≡ true → b ≡ false → A
contradict b e f = let q : true ≡ false = sym e ∙ f in cc

right_of : (a b : Bool) → a ≡ false → (a || b) ≡ true → b ≡ true
right_of true b e h = cc
right_of false b e h = h

or_right : (a b : Bool) → b ≡ true → (a || b) ≡ true
or_right true b e = refl
or_right false b e = e

not_false : (b : Bool) → not b ≡ false → b ≡ true
not_false true e = refl
not_false false e = cc

module _ (p : ProblemParts) (w : IsWhole p) where
  pub sizes : HaveValues (take 10 p.shape) p.clock
  sizes = subst (λ (n : ℕ). HaveValues (take n p.shape) p.clock) w.first w.clock_sizes

  -- a choice that meets all breaks no limit
  meets_all : (choice : List ℕ) → meets p choice ≡ true → (k : ℕ) → meets_limit p.tables p.facts (clock_at p.clock choice) k ≡ true
  unfolding meets
  meets_all choice m =
      let c : ClockChoice = clock_at p.clock choice in
      let some : (p.first == 0) ≡ false = grind (arith, nat_tests, w.first) in
      let rest = (both (fits p.tables (uses_at p.uses (drop p.first choice))) (p.first == 0 || is_none (broken_limit p.tables p.facts c)) m).1 in
      let none : broken_limit p.tables p.facts c ≡ None = is_none_none (broken_limit p.tables p.facts c) (right_of (p.first == 0) (is_none (broken_limit p.tables p.facts c)) some rest) in
      subst (λ (o : Option ℕ). IsLeastBroken (meets_limit p.tables p.facts c) o) none (broken_is_least p.tables p.facts c)

  fits_meets : (choice : List ℕ) → fits p.tables (uses_at p.uses (drop p.first choice)) ≡ true → broken_limit p.tables p.facts (clock_at p.clock choice) ≡ None → meets p choice ≡ true
  unfolding meets
  fits_meets choice e none =
      let c : ClockChoice = clock_at p.clock choice in
      rw e (or_right (p.first == 0) (is_none (broken_limit p.tables p.facts c)) (ap is_none none))

  module _ (box : List Run) (is_box : IsBox p.shape box) where
    placed : (choice : List ℕ) → LiesIn box choice → (k : ℕ) → k < 10 → IsPlaced (clock_box box).lo (clock_box box).hi p.clock choice k
    placed choice lies k l = placed_at 10 p.shape box p.clock choice is_box sizes lies k (omega (arith, l, w.clock.ten))

    -- the runs of the clock variables are a box of clocks
    pub is_clock_box : IsClockBox p.clock (clock_box box)
    is_clock_box = record {
      ten = w.clock.ten;
      runs = λ k l. let q = placed (lows box) (lows_lie p.shape box is_box) k l in record { ordered = q.ordered; inside = q.inside };
    }

    in_box : (choice : List ℕ) → LiesIn box choice → IsIn (clock_at p.clock choice) p.clock (clock_box box)
    in_box choice lies = clock_in p.clock (clock_box box) choice w.clock.in_range (placed choice lies)

    -- a limit that is refuted leaves no choice that meets all
    pub limit_none : (k : ℕ) → limit_refutes p.tables p.facts p.clock (clock_box box) k ≡ true → (choice : List ℕ) → LiesIn box choice → meets p choice ≡ true → ⊥
    limit_none k refuted choice lies m =
        let c : ClockChoice = clock_at p.clock choice in
        let all = meets_all choice m in
        contradict (meets_limit p.tables p.facts c k) (all k)
        (refuting_is_broken p.tables p.facts p.clock (clock_box box) k w.clock.in_range is_clock_box refuted c (in_box choice lies) (all 14))

    limit_bad : (k : ℕ) → refuting_limit p.tables p.facts p.clock (clock_box box) ≡ Some k → limit_refutes p.tables p.facts p.clock (clock_box box) k ≡ true
    limit_bad k e =
        let least = subst (λ (o : Option ℕ). IsLeastBroken (λ j. not (limit_refutes p.tables p.facts p.clock (clock_box box) j)) o) e (refuting_is_least p.tables p.facts p.clock (clock_box box)) in
        not_false (limit_refutes p.tables p.facts p.clock (clock_box box) k) least.1

    -- one choice with no limit refuted breaks none
    lows_break_none : is_single box ≡ true → refuting_limit p.tables p.facts p.clock (clock_box box) ≡ None → broken_limit p.tables p.facts (clock_at p.clock (lows box)) ≡ None
    lows_break_none single none =
        let one : IsOnePlace (clock_box box) = λ k l. one_at 10 p.shape box is_box single k in
        sym (one_choice_is_exact p.tables p.facts p.clock (clock_box box) w.clock.in_range is_clock_box one (clock_at p.clock (lows box)) (in_box (lows box) (lows_lie p.shape box is_box))) ∙ none

  refuted_none : (reason : Reason) (box : List Run) → IsBox p.shape box → refutes_whole p reason box ≡ true → (choice : List ℕ) → LiesIn box choice → meets p choice ≡ true → ⊥
  refuted_none (Hall class vars) box b h choice lies m = hall_none p w.ready box b class vars h choice lies (meets_fits p w.ready choice m)
  refuted_none (Limit k) box b h choice lies m = limit_none box b k h choice lies m

  pub whole_lawful : IsLawful (whole_meaning p)
  whole_lawful = record {
    is_shape = w.ready.shape;
    none_legal = λ reason box b h choice c lies m. refuted_none reason box b h choice lies m;
    bad_refutes = λ reason box b e.
        bad_from (hall_in p.tables Pins (contest p Pins box)) (hall_in p.tables Exti (contest p Exti box)) (refuting_limit p.tables p.facts p.clock (clock_box box)) (is_single box) reason (λ r. refutes_whole p r box ≡ true)
        (hall_bad p w.ready box b Pins) (hall_bad p w.ready box b Exti) (limit_bad box b) e;
    legal_is_one = λ box b e.
        let h = legal_from (hall_in p.tables Pins (contest p Pins box)) (hall_in p.tables Exti (contest p Exti box)) (refuting_limit p.tables p.facts p.clock (clock_box box)) (is_single box) e in
        (h.3, fits_meets (lows box) (lows_fit p w.ready box b h.3 h.0 h.1) (lows_break_none box b h.3 h.2));
    open_has_two = λ box b e. open_from (hall_in p.tables Pins (contest p Pins box)) (hall_in p.tables Exti (contest p Exti box)) (refuting_limit p.tables p.facts p.clock (clock_box box)) (is_single box) e;
  }
