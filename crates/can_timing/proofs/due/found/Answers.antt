use Rattle.std.proofs.Common.{List, Some, subst, sym, ap, ◌∙◌}
use Rattle.answers.specs.Said.{answered}
use Rattle.answers.specs.declared.answer.Status.TheVariants.{Done}
use Rattle.choice_rank.specs.declared.variable.VarShape.{VarShape}
use Rattle.choice_rank.specs.Least.{IsAnswer, IsLeast}
use Rattle.can_timing.specs.Judged.{legal}
use Rattle.can_timing.specs.Texts as due
use Rattle.can_timing.proofs.WalkLemmas.{first_is_answer}
use Rattle.can_timing.proofs.due.found.Goals as goal

pub returns : goal.returns
returns c =
    let q = c.args.j.now.request in
    let at = c.in_ok-at.at.items in
    let answer = subst (λ (vs : List VarShape). IsAnswer vs (legal q) (Some c.args.rank)) (sym c.shape.ensures) (first_is_answer q c.args.rank c.requires) in
    let least = subst (λ (vs : List VarShape). IsLeast vs (legal q) at) c.shape.ensures (c.in_ok-at.ensures.least (legal q) answer) in
    due.found at least (ap (answered Done) (c.of.ensures ∙ c.in_ok-text.ensures ∙ ap (due.can_text q) c.as_slice.ensures.value))
