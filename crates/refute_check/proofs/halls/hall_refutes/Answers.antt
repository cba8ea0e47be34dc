use Rattle.std.proofs.Common.{◌≡◌, ℕ, drop, ap, ◌∙◌, arith}
use Rattle.problem.specs.declared.parts.ProblemParts.{ProblemParts}
use Rattle.refute_check.proofs.CountLemmas.{AreOf, CanCount, can_count, count_is}
use Rattle.refute_check.proofs.halls.hall_refutes.Goals as goal
use Rattle.refute_check.proofs.halls.hall_refutes.Goals.{After-ends_from-hi}

first_is : (c : After-ends_from-hi) → c.parts-parts.result.now.first ≡ c.args.p.now.first
first_is c = ap (λ (q : ProblemParts). q.first) c.parts-parts.ensures

are_of : (c : After-ends_from-hi) → AreOf c.args.p.now c.args.b.now c.parts-parts.result.now.first c.as_slice-uses.result.now c.parts-t.result.now c.ends_from-lo.result.now c.ends_from-hi.result.now
are_of c = record {
  first_is = first_is c;
  uses_are = c.as_slice-uses.ensures ∙ ap (λ (q : ProblemParts). q.uses) c.parts-parts.ensures;
  tables_are = c.parts-t.ensures ∙ ap (λ (q : ProblemParts). q.tables) c.parts-parts.ensures;
  lo_is = c.ends_from-lo.ensures ∙ ap (λ (n : ℕ). drop n c.args.b.now.lo) (first_is c);
  hi_is = c.ends_from-hi.ensures ∙ ap (λ (n : ℕ). drop n c.args.b.now.hi) (first_is c);
}

can : (c : After-ends_from-hi) → CanCount c.parts-parts.result.now.first c.as_slice-uses.result.now c.parts-t.result.now c.ends_from-lo.result.now c.ends_from-hi.result.now
can c = can_count c.args.p.now c.requires.whole.ready c.args.b.now c.requires.is_box (omega arith) (omega arith) c.parts-parts.result.now.first c.as_slice-uses.result.now c.parts-t.result.now c.ends_from-lo.result.now c.ends_from-hi.result.now (are_of c)

pub are_too_many-requires-clause-few : goal.are_too_many-requires-clause-few
are_too_many-requires-clause-few c = (can (goal.at.are_too_many-requires-clause-few c).After-ends_from-hi).few

pub are_too_many-requires-clause-low : goal.are_too_many-requires-clause-low
are_too_many-requires-clause-low c = (can (goal.at.are_too_many-requires-clause-low c).After-ends_from-hi).low

pub are_too_many-requires-clause-high : goal.are_too_many-requires-clause-high
are_too_many-requires-clause-high c = (can (goal.at.are_too_many-requires-clause-high c).After-ends_from-hi).high

pub are_too_many-requires-clause-inside : goal.are_too_many-requires-clause-inside
are_too_many-requires-clause-inside c = (can (goal.at.are_too_many-requires-clause-inside c).After-ends_from-hi).inside

pub are_too_many-requires-clause-resources : goal.are_too_many-requires-clause-resources
are_too_many-requires-clause-resources c = (can (goal.at.are_too_many-requires-clause-resources c).After-ends_from-hi).resources

pub returns : goal.returns
returns c =
    c.are_too_many.ensures
    ∙ count_is c.args.p.now c.requires.whole.ready c.args.b.now c.requires.is_box (omega arith) (omega arith) c.args.class c.args.vars.now c.parts-parts.result.now.first c.as_slice-uses.result.now c.parts-t.result.now c.ends_from-lo.result.now c.ends_from-hi.result.now (are_of (goal.at.returns c).After-ends_from-hi)
