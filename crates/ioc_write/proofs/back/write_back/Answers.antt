use Rattle.std.proofs.Common.{subst}
use Rattle.problem.specs.declared.parts.ProblemParts.{ProblemParts}
use Rattle.res_model.specs.Valid.{IsValid}
use Rattle.ioc_write.proofs.GivenBack.{given_back}
use Rattle.ioc_write.proofs.back.write_back.Goals as goal

pub returns-clause-reads_back : goal.returns-clause-reads_back
returns-clause-reads_back c opts i fit =
    let valid : IsValid c.args.p.now.tables = subst (λ (q : ProblemParts). IsValid q.tables) c.parts.ensures c.keeps_rules.ensures in
    given_back (λ v. v.items) c.args.text.now opts c.args.p.now c.args.at.now valid c.parts_agree.ensures c.requires.whole c.requires.choice c.requires.few i fit c.text_back.result c.text_back.ensures
