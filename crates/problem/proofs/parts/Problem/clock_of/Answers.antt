use Rattle.std.proofs.Common.{◌≡◌, ◌∙◌, ℕ, ◌<◌, ◌^◌, List, length, sym, subst, ap, arith}
use Rattle.std.specs.Prelude.{slice_index}
use Rattle.res_model.specs.Clock.{IsInRange}
use Rattle.clock_limits.specs.Ranges.{values_at}
use Rattle.res_model.specs.Valid.{IsValid}
use Rattle.problem.specs.declared.parts.ProblemParts.{ProblemParts}
use Rattle.problem.specs.ClockValues.{clock_at, clock_value}
use Rattle.problem.proofs.ChosenLemmas as chosen
use Rattle.problem.proofs.parts.Problem.clock_of.Goals as goal

pub clock_at-requires-clause-placed : goal.clock_at-requires-clause-placed
clock_at-requires-clause-placed c = chosen.clock_placed c.args.self.now c.parts_agree.ensures c.requires.whole c.args.at.now c.requires.choice

pub clock_at-requires-clause-positions : goal.clock_at-requires-clause-positions
clock_at-requires-clause-positions c k l =
    let clock : c.as_slice.result.now ≡ c.args.self.now.clock = c.as_slice.ensures ∙ ap (λ (p : ProblemParts). p.clock) c.parts-parts.ensures in
    subst (λ (vss : List (List ℕ)). slice_index c.args.at.now k < length (values_at vss k)) (sym clock) (chosen.clock_inside c.args.self.now c.parts_agree.ensures c.requires.whole c.args.at.now c.requires.choice k l)

pub clock_at-requires-clause-range : goal.clock_at-requires-clause-range
clock_at-requires-clause-range c =
    let clock : c.as_slice.result.now ≡ c.args.self.now.clock = c.as_slice.ensures ∙ ap (λ (p : ProblemParts). p.clock) c.parts-parts.ensures in
    subst (λ (vss : List (List ℕ)). IsInRange (clock_at vss c.args.at.now)) (sym clock) (chosen.clock_in_range c.args.self.now c.parts_agree.ensures c.requires.whole c.args.at.now c.requires.choice)

pub clock_at-requires-clause-scale : goal.clock_at-requires-clause-scale
clock_at-requires-clause-scale c =
    let clock : c.as_slice.result.now ≡ c.args.self.now.clock = c.as_slice.ensures ∙ ap (λ (p : ProblemParts). p.clock) c.parts-parts.ensures in
    let valid = subst (λ (p : ProblemParts). IsValid p.tables) c.parts-parts.ensures c.keeps_rules.ensures in
    let scale = chosen.scale_in c.args.self.now c.parts_agree.ensures c.requires.whole c.args.at.now c.requires.choice valid in
    subst (λ (vss : List (List ℕ)). clock_value vss c.args.at.now 9 < 2 ^ 8) (sym clock) (omega (arith, scale.1))
