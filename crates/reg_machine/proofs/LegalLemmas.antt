-- The tests of legality say their sentences.
use Rattle.std.proofs.Common.{◌≡◌, ℕ, zero, suc, ◌<◌, ◌≤◌, ◌%◌, Bool, true, false, ◌&&◌, ◌||◌, not, eqb, leb, ltb, List, length, get_or, Option, Some, None, ◌⊎◌, inl, inr, refl, sym, subst, ap, ◌∙◌, arith, ◌+◌, add-one}
use Rattle.std.specs.Prelude.{◌↔◌, IsTrue, is_some}
use Rattle.std.proofs.lemmas.Bool.{eq-eqb, eqb-true, cases_lt}
use Rattle.std.proofs.lemmas.Bool.Decides.{leb_tells, eqb_tells, nat_tests}
use Rattle.reg_map.specs.Fields.{bit_of}
use Rattle.res_base.specs.Fraction.{Fraction, IsAtMost, at_most, whole, over}
use Rattle.res_model.specs.Clock.{vco_in_of, vco_of, where_used}
use Rattle.res_model.specs.Limits.{AreWithin, are_within, IsWithinMax}
use Rattle.res_model.specs.Power.{is_within_max}
use Rattle.res_model.specs.declared.table.Mode.{Mode}
use Rattle.res_model.specs.declared.table.Mode.TheVariants as mode
use Rattle.res_model.specs.declared.table.Over.{Over}
use Rattle.res_model.specs.declared.table.TableParts.{TableParts}
use Rattle.reg_machine.specs.Pins.{mode_field, af_field, is_debug, is_function, is_chosen, is_pin_legal, is_place_legal, are_legal_below, IsFunction, IsChosen, IsPinLegal}
use Rattle.reg_machine.specs.Power.{power_of}
use Rattle.reg_machine.specs.Tree.{choice_of}
use Rattle.reg_machine.specs.Legal.{NodesFit, nodes_fit, is_choice_legal, are_within_some, is_vco_legal, IsLegal, is_legal}
use Rattle.reg_machine.specs.declared.state.State.{State}
use Rattle.reg_machine.specs.declared.state.Target.{Target}
use Rattle.reg_machine.proofs.TreeLemmas.{and_left, and_right, both, leb_true}

leb_of : (a b : ℕ) → a ≤ b → leb a b ≡ true
leb_of a b h = elim (leb_tells a b) [ inl t ↦ t.0 | inr n ↦ absurd (omega (arith, h, n.1)) ]

ltb_true : (a b : ℕ) → ltb a b ≡ true → a < b
ltb_true a b e = grind (arith, nat_tests)

ltb_of : (a b : ℕ) → a < b → ltb a b ≡ true
ltb_of a b l = grind (arith, nat_tests)

fact_of : (x y : Fraction) → at_most x y ≡ true → IsAtMost x y
fact_of x y e = leb_true _ _ e

test_of : (x y : Fraction) → IsAtMost x y → at_most x y ≡ true
test_of x y h = leb_of _ _ h

-- ---- pins

function_says : (m : Mode) (af : ℕ) → IsTrue (is_function m af) ↔ IsFunction m af
function_says (mode.Alt f) af = (λ e. eqb-true af f e, λ h. eq-eqb af f h)
function_says mode.Input af = (λ e. absurd (cc), λ h. absurd h)
function_says mode.Output af = (λ e. absurd (cc), λ h. absurd h)
function_says mode.Analog af = (λ e. absurd (cc), λ h. absurd h)
function_says mode.Exti af = (λ e. absurd (cc), λ h. absurd h)
function_says mode.Osc af = (λ e. absurd (cc), λ h. absurd h)
function_says mode.Held af = (λ e. absurd (cc), λ h. absurd h)

chosen_says : (o : Option Mode) (af : ℕ) → IsTrue (is_chosen o af) ↔ IsChosen o af
chosen_says None af = (λ e. absurd (cc), λ h. absurd h)
chosen_says (Some m) af = function_says m af

or_cases : (a b : Bool) → (a || b) ≡ true → (a ≡ true) ⊎ (b ≡ true)
or_cases true b h = inl refl
or_cases false b h = inr h

or_left : (a b : Bool) → a ≡ true → (a || b) ≡ true
or_left a b h = ap (λ x. x || b) h

or_right : (a b : Bool) → b ≡ true → (a || b) ≡ true
or_right true b h = refl
or_right false b h = h

pin_says : (o : Option Mode) (p m af : ℕ) → IsTrue (is_pin_legal o p m af) ↔ IsPinLegal o p m af
pin_says o p m af = (λ e. to_fact e, λ h. to_test h)
  where
    rest : Bool
    rest = is_chosen o af || (is_debug p && eqb af 0)

    at_two : m ≡ 2 → (not (eqb m 2) || rest) ≡ true → rest ≡ true
    at_two e h = subst (λ b. (not b || rest) ≡ true) (eq-eqb m 2 e) h

    to_sum : rest ≡ true → IsChosen o af ⊎ ((is_debug p ≡ true) × (af ≡ 0))
    to_sum h = elim (or_cases (is_chosen o af) (is_debug p && eqb af 0) h) [
      | inl y ↦ inl ((chosen_says o af).0 y)
      | inr n ↦ inr (and_left (is_debug p) (eqb af 0) n, eqb-true af 0 (and_right (is_debug p) (eqb af 0) n))
    ]

    to_fact : (not (eqb m 2) || rest) ≡ true → IsPinLegal o p m af
    to_fact e two = to_sum (at_two two e)

    from_sum : IsChosen o af ⊎ ((is_debug p ≡ true) × (af ≡ 0)) → rest ≡ true
    from_sum h = elim h [
      | inl y ↦ or_left (is_chosen o af) (is_debug p && eqb af 0) ((chosen_says o af).1 y)
      | inr n ↦ or_right (is_chosen o af) (is_debug p && eqb af 0) (both (is_debug p) (eqb af 0) n.0 (eq-eqb af 0 n.1))
    ]

    to_test : IsPinLegal o p m af → (not (eqb m 2) || rest) ≡ true
    to_test h = elim (eqb_tells m 2) [
      | inl y ↦ or_right (not (eqb m 2)) rest (from_sum (h y.1))
      | inr n ↦ or_left (not (eqb m 2)) rest (ap not n.0)
    ]

pub record BelowAreLegal (n : ℕ) (wanted : List (Option Mode)) (g : List ℕ) : Type 0 where
  pub pin : (p : ℕ) → p < n → IsPinLegal (get_or wanted p None) p (mode_field p g) (af_field p g)

below_fact : (n : ℕ) (wanted : List (Option Mode)) (g : List ℕ) → are_legal_below n wanted g ≡ true → BelowAreLegal n wanted g
unfolding are_legal_below
below_fact zero wanted g e = record { pin = λ p l. absurd (omega arith) }
below_fact (suc n) wanted g e =
    let prefix = below_fact n wanted g (and_right (is_place_legal wanted g n) (are_legal_below n wanted g) e) in
    let last = (pin_says (get_or wanted n None) n (mode_field n g) (af_field n g)).0 (and_left (is_place_legal wanted g n) (are_legal_below n wanted g) e) in
    record {
      pin = λ p l. elim (cases_lt p n) [
        | inl y ↦ prefix.pin p y
        | inr y ↦ let same : n ≡ p = omega arith in subst (λ q. IsPinLegal (get_or wanted q None) q (mode_field q g) (af_field q g)) same last
      ];
    }

-- a place more
pub below_none : (wanted : List (Option Mode)) (g : List ℕ) → are_legal_below 0 wanted g ≡ true
unfolding are_legal_below
below_none wanted g = refl

pub below_more : (n : ℕ) (wanted : List (Option Mode)) (g : List ℕ) (here before : Bool) → here ≡ is_place_legal wanted g n → before ≡ are_legal_below n wanted g → (here && before) ≡ are_legal_below (n + 1) wanted g
unfolding are_legal_below
below_more n wanted g here before e f = ap (λ b. b && before) e ∙ ap (λ b. is_place_legal wanted g n && b) f ∙ ap (λ k. are_legal_below k wanted g) (sym (add-one n))

below_test : (n : ℕ) (wanted : List (Option Mode)) (g : List ℕ) → BelowAreLegal n wanted g → are_legal_below n wanted g ≡ true
unfolding are_legal_below
below_test zero wanted g h = refl
below_test (suc n) wanted g h =
    both (is_place_legal wanted g n) (are_legal_below n wanted g)
    ((pin_says (get_or wanted n None) n (mode_field n g) (af_field n g)).1 (h.pin n (omega arith)))
    (below_test n wanted g (record { pin = λ p l. h.pin p (omega arith) }))

-- ---- clocks

max_fact : (max : Option ℕ) (x : Fraction) → is_within_max x max ≡ true → IsWithinMax x max
max_fact None x e = absurd (cc)
max_fact (Some max) x e = fact_of x (whole max) e

max_test : (max : Option ℕ) (x : Fraction) → IsWithinMax x max → is_within_max x max ≡ true
max_test None x h = absurd h
max_test (Some max) x h = test_of x (whole max) h

module _ (speeds : Over) (scale : Option ℕ) (rows : List ℕ) (wait : ℕ) (x : Fraction) (h a b : ℕ) where
  t1 : Bool
  t1 = at_most x (whole speeds.sysclk)

  t2 : Bool
  t2 = is_within_max (over x h) scale

  t3 : Bool
  t3 = ltb wait (length rows)

  t4 : Bool
  t4 = at_most (over x h) (whole (get_or rows wait 0))

  t5 : Bool
  t5 = at_most (over (over x h) a) (whole speeds.pclk1)

  t6 : Bool
  t6 = at_most (over (over x h) b) (whole speeds.pclk2)

  pub nodes_fact : nodes_fit speeds scale rows wait x h a b ≡ true → NodesFit speeds scale rows wait x h a b
  unfolding t1 t2 t3 t4 t5 t6
  nodes_fact e =
      let e2 = and_right t1 (t2 && ((t3 && t4) && (t5 && t6))) e in
      let e3 = and_right t2 ((t3 && t4) && (t5 && t6)) e2 in
      let e5 = and_right (t3 && t4) (t5 && t6) e3 in
      let row = and_left (t3 && t4) (t5 && t6) e3 in
      record {
        sysclk_within = fact_of _ _ (and_left t1 (t2 && ((t3 && t4) && (t5 && t6))) e);
        scale_covers = max_fact scale (over x h) (and_left t2 ((t3 && t4) && (t5 && t6)) e2);
        row_is_there = ltb_true wait (length rows) (and_left t3 t4 row);
        row_covers = fact_of _ _ (and_right t3 t4 row);
        pclk1_within = fact_of _ _ (and_left t5 t6 e5);
        pclk2_within = fact_of _ _ (and_right t5 t6 e5);
      }

  pub nodes_test : NodesFit speeds scale rows wait x h a b → nodes_fit speeds scale rows wait x h a b ≡ true
  unfolding t1 t2 t3 t4 t5 t6
  nodes_test n =
      both t1 (t2 && ((t3 && t4) && (t5 && t6))) (test_of _ _ n.sysclk_within)
      (both t2 ((t3 && t4) && (t5 && t6)) (max_test scale (over x h) n.scale_covers)
      (both (t3 && t4) (t5 && t6) (both t3 t4 (ltb_of wait (length rows) n.row_is_there) (test_of _ _ n.row_covers))
      (both t5 t6 (test_of _ _ n.pclk1_within) (test_of _ _ n.pclk2_within))))

within_fact : (bounds : ℕ × ℕ) (x : Fraction) → are_within bounds x ≡ true → AreWithin bounds x
within_fact bounds x e = (fact_of (whole bounds.0) x (and_left (at_most (whole bounds.0) x) (at_most x (whole bounds.1)) e), fact_of x (whole bounds.1) (and_right (at_most (whole bounds.0) x) (at_most x (whole bounds.1)) e))

within_test : (bounds : ℕ × ℕ) (x : Fraction) → AreWithin bounds x → are_within bounds x ≡ true
within_test bounds x h = both (at_most (whole bounds.0) x) (at_most x (whole bounds.1)) (test_of (whole bounds.0) x h.0) (test_of x (whole bounds.1) h.1)

some_fact : (bounds : ℕ × ℕ) (on : Bool) (x : Fraction) → are_within_some bounds (where_used on x) ≡ true → on ≡ true → AreWithin bounds x
some_fact bounds true x e h = within_fact bounds x e
some_fact bounds false x e h = absurd (cc)

some_test : (bounds : ℕ × ℕ) (on : Bool) (x : Fraction) → (on ≡ true → AreWithin bounds x) → are_within_some bounds (where_used on x) ≡ true
some_test bounds true x h = within_test bounds x (h refl)
some_test bounds false x h = refl

-- ---- the whole

module _ (t : TableParts) (want : Target) (s : State) where
  l0 : Bool
  l0 = is_some (power_of s)

  l1 : Bool
  l1 = is_choice_legal t want.facts s.latency (choice_of s s.source)

  l2 : Bool
  l2 = is_choice_legal t want.facts s.latency (choice_of s (s.cfgr % 4))

  l3 : Bool
  l3 = is_vco_legal t want.facts (bit_of 24 s.cr) (choice_of s s.source)

  l4 : Bool
  l4 = are_legal_below 144 want.pins s.gpio

  v1 : Bool
  v1 = are_within_some t.limits.vco_in (where_used (bit_of 24 s.cr) (vco_in_of want.facts (choice_of s s.source)))

  v2 : Bool
  v2 = are_within_some t.limits.vco (where_used (bit_of 24 s.cr) (vco_of want.facts (choice_of s s.source)))

  legal_fact : is_legal t want s ≡ true → IsLegal t want s
  unfolding l0 l1 l2 l3 l4 v1 v2
  legal_fact e =
      let e1 = and_right l0 (l1 && (l2 && (l3 && l4))) e in
      let e2 = and_right l1 (l2 && (l3 && l4)) e1 in
      let e3 = and_right l2 (l3 && l4) e2 in
      let vco = and_left l3 l4 e3 in
      record {
        power = and_left l0 (l1 && (l2 && (l3 && l4))) e;
        in_effect = nodes_fact _ _ _ _ _ _ _ _ (and_left l1 (l2 && (l3 && l4)) e1);
        asked = nodes_fact _ _ _ _ _ _ _ _ (and_left l2 (l3 && l4) e2);
        vco_in = some_fact t.limits.vco_in (bit_of 24 s.cr) _ (and_left v1 v2 vco);
        vco = some_fact t.limits.vco (bit_of 24 s.cr) _ (and_right v1 v2 vco);
        pins = record { pin = (below_fact 144 want.pins s.gpio (and_right l3 l4 e3)).pin };
      }

  legal_test : IsLegal t want s → is_legal t want s ≡ true
  unfolding l0 l1 l2 l3 l4 v1 v2
  legal_test h =
      both l0 (l1 && (l2 && (l3 && l4))) h.power
      (both l1 (l2 && (l3 && l4)) (nodes_test _ _ _ _ _ _ _ _ h.in_effect)
      (both l2 (l3 && l4) (nodes_test _ _ _ _ _ _ _ _ h.asked)
      (both l3 l4 (both v1 v2 (some_test t.limits.vco_in (bit_of 24 s.cr) _ h.vco_in) (some_test t.limits.vco (bit_of 24 s.cr) _ h.vco))
      (below_test 144 want.pins s.gpio (record { pin = h.pins.pin })))))

  pub legal_says : IsTrue (is_legal t want s) ↔ IsLegal t want s
  legal_says = (λ e. legal_fact e, λ h. legal_test h)
