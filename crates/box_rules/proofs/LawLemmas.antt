-- That the meaning of a judge is lawful.
use Rattle.std.proofs.Common.{◌≡◌, ◌≢◌, ℕ, zero, suc, ◌+◌, ◌<◌, ◌≤◌, ◌==◌, List, [], ◌∷◌, length, get_or, drop, Bool, true, false, ◌||◌, Option, Some, None, refl, subst, ap, ◌∙◌, arith}
use Rattle.std.specs.Prelude.{is_none}
use Rattle.std.proofs.lemmas.List.{length-drop}
use Rattle.std.proofs.lemmas.Bool.Decides.{nat_tests}
use Rattle.res_base.specs.declared.var_set.VarSet.{VarSet}
use Rattle.box_split.specs.Boxes.{Run, IsBox, LiesIn, is_single, lows}
use Rattle.pin_rules.proofs.FitLemmas.{sentences_fit}
use Rattle.problem.specs.declared.parts.ProblemParts.{ProblemParts}
use Rattle.problem.specs.Meets.{meets}
use Rattle.res_model.specs.declared.table.PinUse.{PinUse}
use Rattle.res_model.specs.declared.table.TableParts.{TableParts}
use Rattle.res_model.specs.Limits.{broken_limit}
use Rattle.problem.specs.ClockValues.{clock_at}
use Rattle.res_model.specs.Placement.{fits, is_exti, uses_at}
use Rattle.search_api.specs.declared.verdict.Class.{Class}
use Rattle.search_api.specs.declared.verdict.Class.TheVariants.{Pins, Exti}
use Rattle.search_api.specs.declared.verdict.Reason.{Reason}
use Rattle.search_api.specs.declared.verdict.Reason.TheVariants.{Hall, Limit}
use Rattle.search_api.specs.declared.verdict.Verdict.TheVariants.{Bad, Legal, Open}
use Rattle.search_api.specs.Meaning.{IsLawful}
use Rattle.box_rules.specs.Contest.{hall_in, resource_of, hall_refutes}
use Rattle.box_rules.specs.Judged.{HasResources, IsReady, contest, pin_meaning, refutes_pins, verdict_from}
use Rattle.box_rules.specs.Inside.{AreInside}
use Rattle.box_rules.proofs.ContestLemmas.{as_many_values, box_drop, box_inside, lies_drop, lows_lie, single_drop, use_has}
use Rattle.box_rules.proofs.CountLemmas.{both}
use Rattle.box_rules.proofs.JudgeLemmas.{found_hall_refutes, kept_apart, no_choice_fits, none_full, nothing}

small_of : (t : TableParts) (class : Class) (u : PinUse) → HasResources t u → resource_of t class u < 192
small_of t Pins u h = h.0
small_of t Exti u h = h.1

bad_from : (pins lines : Option VarSet) (single : Bool) (reason : Reason) (P : Reason → Type 0) → ((vars : VarSet) → pins ≡ Some vars → P (Hall Pins vars)) → ((vars : VarSet) → lines ≡ Some vars → P (Hall Exti vars)) → verdict_from pins lines single ≡ Bad reason → P reason
bad_from (Some vars) lines single reason P p q e = let r : Hall Pins vars ≡ reason = cc (e) in subst P r (p vars refl)
bad_from None (Some vars) single reason P p q e = let r : Hall Exti vars ≡ reason = cc (e) in subst P r (q vars refl)
bad_from None None true reason P p q e = cc
bad_from None None false reason P p q e = cc

legal_from : (pins lines : Option VarSet) (single : Bool) → verdict_from pins lines single ≡ Legal → (pins ≡ None) × (lines ≡ None) × (single ≡ true)
legal_from (Some vars) lines single e = cc
legal_from None (Some vars) single e = cc
legal_from None None true e = (refl, refl, refl)
legal_from None None false e = cc

open_from : (pins lines : Option VarSet) (single : Bool) → verdict_from pins lines single ≡ Open → single ≡ false
open_from (Some vars) lines single e = cc
open_from None (Some vars) single e = cc
open_from None None true e = cc
open_from None None false e = refl

other_class : {A : Type 0} → Pins ≡ Exti → A
other_class e = cc

drop_lows : (k : ℕ) (rs : List Run) → drop k (lows rs) ≡ lows (drop k rs)
drop_lows zero rs = refl
drop_lows (suc k) [] = refl
drop_lows (suc k) (r ∷ rs) = drop_lows k rs

module _ (p : ProblemParts) (ready : IsReady p) where
  pub few : p.first + length p.uses ≤ 192
  few = omega (arith, as_many_values (drop p.first p.shape) p.uses ready.sizes, length-drop p.first p.shape, ready.shape.few, ready.first)

  module _ (box : List Run) (is_box : IsBox p.shape box) where
    inside : AreInside p.uses (drop p.first box)
    inside = box_inside (drop p.first p.shape) p.uses (drop p.first box) ready.sizes (box_drop p.first p.shape box is_box)

    small : (class : Class) (choice : List ℕ) → LiesIn box choice → (j : ℕ) → j < length (uses_at p.uses (drop p.first choice)) → resource_of p.tables class (get_or (uses_at p.uses (drop p.first choice)) j nothing) < 192
    small class choice lies j l =
        small_of p.tables class (get_or (uses_at p.uses (drop p.first choice)) j nothing)
        (use_has (HasResources p.tables) nothing p.uses (drop p.first box) (drop p.first choice) inside (lies_drop p.first box choice lies) ready.resources j l)

    -- a Hall set that refutes the box leaves no choice whose pins fit
    pub hall_none : (class : Class) (vars : VarSet) → hall_refutes p.tables class (contest p class box) vars ≡ true → (choice : List ℕ) → LiesIn box choice → fits p.tables (uses_at p.uses (drop p.first choice)) ≡ true → ⊥
    hall_none class vars refuted choice lies ok =
        no_choice_fits p.tables class p.first p.uses (drop p.first box) (drop p.first choice) inside (lies_drop p.first box choice lies) (small class choice lies) vars refuted ok

    pub hall_bad : (class : Class) (vars : VarSet) → hall_in p.tables class (contest p class box) ≡ Some vars → hall_refutes p.tables class (contest p class box) vars ≡ true
    hall_bad class vars e = found_hall_refutes p.tables class p.first p.uses (drop p.first box) few vars e

    -- one choice without a Hall set of either class: its pins fit
    module _ (single : is_single box ≡ true) (pins : hall_in p.tables Pins (contest p Pins box) ≡ None) (lines : hall_in p.tables Exti (contest p Exti box) ≡ None) where
      apart : (class : Class) → hall_in p.tables class (contest p class box) ≡ None → (i j : ℕ) → i < j → j < length (uses_at p.uses (drop p.first (lows box)))
          → (class ≡ Exti → is_exti (get_or (uses_at p.uses (drop p.first (lows box))) i nothing).mode ≡ true) → (class ≡ Exti → is_exti (get_or (uses_at p.uses (drop p.first (lows box))) j nothing).mode ≡ true)
          → resource_of p.tables class (get_or (uses_at p.uses (drop p.first (lows box))) i nothing) ≢ resource_of p.tables class (get_or (uses_at p.uses (drop p.first (lows box))) j nothing)
      apart class none =
          kept_apart p.tables class p.first p.uses (drop p.first box) (drop p.first (lows box)) inside (lies_drop p.first box (lows box) (lows_lie p.shape box is_box)) (single_drop p.first box single)
          (none_full p.tables class p.first p.uses (drop p.first box) few none) ready.alike

      pub lows_fit : fits p.tables (uses_at p.uses (drop p.first (lows box))) ≡ true
      lows_fit =
          let us : List PinUse = uses_at p.uses (drop p.first (lows box)) in
          sentences_fit p.tables (uses_at p.uses (drop p.first (lows box))) record {
            pins = λ i j d l k e. apart Pins pins i j l k (λ q. other_class q) (λ q. other_class q) (ap (λ (u : PinUse). u.pin) (any_default us i nothing d (omega (arith, l, k))) ∙ e ∙ ap (λ (u : PinUse). u.pin) (any_default us j d nothing k));
            lines = λ i j d l k a b e. apart Exti lines i j l k
                (λ q. ap (λ (u : PinUse). is_exti u.mode) (any_default us i nothing d (omega (arith, l, k))) ∙ ap is_exti a)
                (λ q. ap (λ (u : PinUse). is_exti u.mode) (any_default us j nothing d k) ∙ ap is_exti b)
                (ap (λ (u : PinUse). resource_of p.tables Exti u) (any_default us i nothing d (omega (arith, l, k))) ∙ e ∙ ap (λ (u : PinUse). resource_of p.tables Exti u) (any_default us j d nothing k));
          }
        where
          any_default : (us : List PinUse) (i : ℕ) (d e : PinUse) → i < length us → get_or us i d ≡ get_or us i e
          any_default [] i d e l = absurd (omega arith)
          any_default (u ∷ us) zero d e l = refl
          any_default (u ∷ us) (suc i) d e l = any_default us i d e (omega arith)

  pub meets_fits : (choice : List ℕ) → meets p choice ≡ true → fits p.tables (uses_at p.uses (drop p.first choice)) ≡ true
  unfolding meets
  meets_fits choice e = (both (fits p.tables (uses_at p.uses (drop p.first choice))) (p.first == 0 || is_none (broken_limit p.tables p.facts (clock_at p.clock choice))) e).0

  fits_meets : p.first ≡ 0 → (choice : List ℕ) → fits p.tables (uses_at p.uses (drop p.first choice)) ≡ true → meets p choice ≡ true
  unfolding meets
  fits_meets zero_first choice e =
      let t : (p.first == 0) ≡ true = grind (arith, nat_tests, zero_first) in
      rw (e, t) refl

  refuted_none : (reason : Reason) (box : List Run) → IsBox p.shape box → refutes_pins p reason box ≡ true → (choice : List ℕ) → LiesIn box choice → meets p choice ≡ true → ⊥
  refuted_none (Hall class vars) box b h choice lies m = hall_none box b class vars h choice lies (meets_fits choice m)
  refuted_none (Limit k) box b h choice lies m = let q : false ≡ true = h in cc

  pub pin_lawful : p.first ≡ 0 → IsLawful (pin_meaning p)
  pin_lawful pins_only = record {
    is_shape = ready.shape;
    none_legal = λ reason box b h choice c lies m. refuted_none reason box b h choice lies m;
    bad_refutes = λ reason box b e. bad_from (hall_in p.tables Pins (contest p Pins box)) (hall_in p.tables Exti (contest p Exti box)) (is_single box) reason (λ r. refutes_pins p r box ≡ true) (hall_bad box b Pins) (hall_bad box b Exti) e;
    legal_is_one = λ box b e.
        let h = legal_from (hall_in p.tables Pins (contest p Pins box)) (hall_in p.tables Exti (contest p Exti box)) (is_single box) e in
        (h.2, fits_meets pins_only (lows box) (lows_fit box b h.2 h.0 h.1));
    open_has_two = λ box b e. open_from (hall_in p.tables Pins (contest p Pins box)) (hall_in p.tables Exti (contest p Exti box)) (is_single box) e;
  }
