use Rattle.std.proofs.Common.{subst, sym, ◌∙◌}
use Rattle.box_rules.specs.Judged.{whole_meaning}
use Rattle.least_search.specs.Found.{IsFound, IsProof}
use Rattle.least_search.specs.declared.outcomes.Found.{Found}
use Rattle.least_search.specs.declared.outcomes.Found.TheVariants.{Nothing}
use Rattle.problem.specs.declared.parts.ProblemParts.{ProblemParts}
use Rattle.explain.proofs.due.narrow.Goals as goal

pub refused-requires-clause-proof : goal.refused-requires-clause-proof
refused-requires-clause-proof c =
    let none : IsFound (whole_meaning c.args.p) (Nothing c.in-Nothing.proof) = subst (λ (f : Found). IsFound (whole_meaning c.args.p) f) c.in-Nothing.is c.in_ok-judge.ensures.found in
    subst (λ (p : ProblemParts). IsProof (whole_meaning p) c.in-Nothing.proof) (sym (c.problem-in-Nothing.ensures ∙ c.in_ok-judge.ensures.judge)) none.1
