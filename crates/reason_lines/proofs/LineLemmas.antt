-- The reasons of a whole problem have lines.
use Rattle.std.proofs.Common.{◌≡◌, ℕ, ◌+◌, ◌<◌, ◌==◌, ◌&&◌, ◌++◌, List, length, drop, Bool, true, false, not, Option, Some, None, inl, inr, refl, sym, subst, ap, ◌∙◌, arith}
use Rattle.std.specs.Prelude.{Ok, map, nat_lt}
use Rattle.std.proofs.lemmas.List.{length-drop}
use Rattle.std.proofs.lemmas.Bool.Decides.{nat_tests}
use Rattle.res_base.specs.declared.var_set.VarSet.{VarSet}
use Rattle.res_base.specs.Lists.{Each}
use Rattle.res_base.specs.Sums.{sum_below, one_if}
use Rattle.res_base.specs.VarSet.{in_set}
use Rattle.res_base.proofs.SumLemmas.{bool_cases, some_below}
use Rattle.box_split.specs.Boxes.{Run, IsBox, is_single}
use Rattle.pin_match.specs.Hall.{any_below}
use Rattle.clock_limits.specs.Laws.{IsLeastBroken}
use Rattle.clock_limits.proofs.LeastLemmas.{refuting_is_least}
use Rattle.problem.specs.declared.parts.ProblemParts.{ProblemParts}
use Rattle.clock_limits.specs.Ranges.{limit_refutes, refuting_limit}
use Rattle.search_api.specs.declared.verdict.Class.{Class}
use Rattle.search_api.specs.declared.verdict.Class.TheVariants.{Pins, Exti}
use Rattle.search_api.specs.declared.verdict.Reason.{Reason}
use Rattle.search_api.specs.declared.verdict.Reason.TheVariants.{Hall, Limit}
use Rattle.search_api.specs.declared.verdict.Verdict.TheVariants.{Bad}
use Rattle.box_rules.specs.Contest.{Contestant, hall_in, is_contestant, resources_of, hall_refutes, variable_at}
use Rattle.box_rules.specs.Judged.{IsWhole, clock_box, contest, whole_meaning, whole_verdict_from}
use Rattle.box_rules.proofs.ContestLemmas.{as_many_values, most_variable}
use Rattle.box_rules.proofs.CountLemmas.{and_yes, any_in, both, some_any, yes}
use Rattle.box_rules.proofs.LawLemmas.{hall_bad}
use Rattle.box_rules.proofs.WholeLemmas.{whole_lawful}
use Rattle.refutation.specs.declared.node.Node.{Node}
use Rattle.refutation.specs.Canonical.{IsCanonicalOf}
use Rattle.refutation.specs.Forms.{form_of, FitsBound}
use Rattle.refutation.specs.Lines.{HasMembers, HasLine, ReasonsHaveLines}
use Rattle.refutation.specs.Reading.{proof_of, IsPassedOver}
use Rattle.refutation.specs.Spelling.{lines_text, spelling}
use Rattle.refutation.proofs.FitLemmas.{canonical_read}

not_true : (b : Bool) → not b ≡ true → b ≡ false
not_true true e = cc
not_true false e = refl

contradict : {A : Type 0} (b : Bool) → b ≡ true → b ≡ false → A
contradict b e f = let q : true ≡ false = sym e ∙ f in cc

-- the reason of a verdict, by what it comes from
reason_from : (pins lines : Option VarSet) (limit : Option ℕ) (single : Bool) (reason : Reason)
    → ((vars : VarSet) → pins ≡ Some vars → HasMembers vars) → ((vars : VarSet) → lines ≡ Some vars → HasMembers vars) → ((k : ℕ) → limit ≡ Some k → HasLine (Limit k))
    → whole_verdict_from pins lines limit single ≡ Bad reason → HasLine reason
reason_from (Some vars) lines limit single reason p q l e = let r : Hall Pins vars ≡ reason = cc (e) in subst HasLine r (p vars refl)
reason_from None (Some vars) limit single reason p q l e = let r : Hall Exti vars ≡ reason = cc (e) in subst HasLine r (q vars refl)
reason_from None None (Some k) single reason p q l e = let r : Limit k ≡ reason = cc (e) in subst HasLine r (l k refl)
reason_from None None None true reason p q l e = cc
reason_from None None None false reason p q l e = cc

-- a Hall set has a member, and all of them compete
module _ (p : ProblemParts) (class : Class) (cs : List Contestant) (vars : VarSet) (refuted : hall_refutes p.tables class cs vars ≡ true) where
  parts : (any_below 192 (λ v. in_set vars v && not (is_contestant cs v)) ≡ false) × (resources_of p.tables class cs vars < sum_below 192 (λ v. one_if (in_set vars v)))
  unfolding hall_refutes
  parts =
      let b = both (not (any_below 192 (λ v. in_set vars v && not (is_contestant cs v)))) (nat_lt (resources_of p.tables class cs vars) (sum_below 192 (λ v. one_if (in_set vars v)))) refuted in
      let l : resources_of p.tables class cs vars < sum_below 192 (λ v. one_if (in_set vars v)) = grind (arith, nat_tests, b.1) in
      (not_true (any_below 192 (λ v. in_set vars v && not (is_contestant cs v))) b.0, l)

  a_member : (v : ℕ) × (v < 192) × (in_set vars v ≡ true)
  a_member =
      let r = some_below 192 (λ v. one_if (in_set vars v)) (omega (arith, parts.1)) in
      (r.0, r.1, yes (in_set vars r.0) r.2)

  competing : (v : ℕ) → v < 192 → in_set vars v ≡ true → (i : ℕ) × (i < length cs) × (variable_at cs i ≡ v)
  competing v l e = elim (bool_cases (is_contestant cs v)) [
    | inl q ↦ let h = some_any (length cs) (λ i. variable_at cs i == v) q in let s : variable_at cs h.0 ≡ v = grind (arith, nat_tests, h.2) in (h.0, h.1, s)
    | inr q ↦ contradict (any_below 192 (λ w. in_set vars w && not (is_contestant cs w))) (any_in 192 (λ w. in_set vars w && not (is_contestant cs w)) v l (and_yes (in_set vars v) (not (is_contestant cs v)) e (ap not q))) parts.0
  ]

module _ (p : ProblemParts) (w : IsWhole p) where
  few : p.first + length p.uses < 171
  few = omega (arith, as_many_values (drop p.first p.shape) p.uses w.ready.sizes, length-drop p.first p.shape, w.ready.shape.few, w.first)

  module _ (box : List Run) (is_box : IsBox p.shape box) where
    hall : (class : Class) (vars : VarSet) → hall_in p.tables class (contest p class box) ≡ Some vars → HasMembers vars
    hall class vars e =
        let cs = contest p class box in
        let refuted = hall_bad p w.ready box is_box class vars e in
        record {
          some = a_member p class cs vars refuted;
          variables = λ v l t.
              let c = competing p class cs vars refuted v l t in
              omega (arith, most_variable class p.first p.uses (drop p.first box) c.0 c.1, c.2, few);
        }

    limit : (k : ℕ) → refuting_limit p.tables p.facts p.clock (clock_box box) ≡ Some k → HasLine (Limit k)
    limit k e =
        let least = subst (λ (o : Option ℕ). IsLeastBroken (λ j. not (limit_refutes p.tables p.facts p.clock (clock_box box) j)) o) e (refuting_is_least p.tables p.facts p.clock (clock_box box)) in
        (least.0.0, least.0.1)

pub have_lines : (p : ProblemParts) → IsWhole p → ReasonsHaveLines (whole_meaning p)
have_lines p w reason box b e =
    reason_from (hall_in p.tables Pins (contest p Pins box)) (hall_in p.tables Exti (contest p Exti box)) (refuting_limit p.tables p.facts p.clock (clock_box box)) (is_single box) reason
    (hall p w box b Pins) (hall p w box b Exti) (limit p w box b) e

pub are_read : (p : ProblemParts) (bound : Option ℕ) (nodes : List Node) (before : List (List ℕ)) → IsWhole p → FitsBound bound → IsCanonicalOf (whole_meaning p) bound nodes → Each IsPassedOver before → proof_of (lines_text before ++ spelling bound (map form_of nodes)) ≡ Ok (bound, map form_of nodes)
are_read p bound nodes before w b c passed = canonical_read (whole_meaning p) bound (whole_lawful p w) (have_lines p w) nodes before b c passed
