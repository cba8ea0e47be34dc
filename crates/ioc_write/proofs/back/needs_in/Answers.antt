use Rattle.std.proofs.Common.{◌≡◌, arith, ap, ◌∙◌}
use Rattle.problem.specs.declared.parts.ProblemParts.{ProblemParts}
use Rattle.ioc_write.specs.WriteBack.{needs_of}
use Rattle.ioc_write.proofs.Walks.{needs_few}
use Rattle.ioc_write.proofs.back.needs_in.Goals as goal

pub returns-clause-few : goal.returns-clause-few
returns-clause-few c =
    let p = c.args.p.now in
    let is : c.needs_of.result ≡ needs_of p.signals = c.needs_of.ensures ∙ ap needs_of (c.as_slice.ensures ∙ ap (λ (q : ProblemParts). q.signals) c.parts.ensures) in
    omega (arith, is, needs_few p.signals, c.parts_agree.ensures.few)
