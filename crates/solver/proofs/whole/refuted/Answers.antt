use Rattle.std.proofs.Common.{ℕ, Option, None, ap, subst}
use Rattle.box_rules.specs.Judged.{whole_meaning}
use Rattle.solver.specs.Owed.{refuted}
use Rattle.answers.specs.Said.{answered}
use Rattle.answers.specs.declared.answer.Status.TheVariants.{NoChoice}
use Rattle.solver.specs.Spelled.{IsSpelled}
use Rattle.solver.proofs.ReadLemmas.{alone}
use Rattle.solver.proofs.whole.refuted.Goals as goal

pub returns : goal.returns
returns c =
    let judge = c.args.judge.now in
    let p = judge.problem in
    let text = c.in_ok-text.text.items in
    let spelled = subst (λ (o : Option ℕ). IsSpelled (whole_meaning p) o text) c.requires.best c.in_ok-text.ensures in
    refuted text c.requires.none (alone p None text judge.whole tt spelled) (ap (answered NoChoice) c.of.ensures)
