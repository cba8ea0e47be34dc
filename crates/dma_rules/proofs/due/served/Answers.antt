use Rattle.std.proofs.Common.{◌∙◌, ℕ, List, Some, ap, subst, sym}
use Rattle.answers.specs.Said.{answered}
use Rattle.answers.specs.declared.answer.Status.TheVariants.{Done}
use Rattle.choice_rank.specs.Least.{IsAnswer, IsLeast}
use Rattle.choice_rank.specs.declared.variable.VarShape.{VarShape}
use Rattle.dma_rules.specs.Streams.{meets, shape_of}
use Rattle.dma_rules.specs.Texts as due
use Rattle.dma_rules.proofs.due.served.Goals as goal

pub returns : goal.returns
returns c =
    let w = c.args.w.now in
    let at = c.in_ok-at.at.items in
    let least : IsLeast (shape_of w) (meets w) at =
    subst (λ (vs : List VarShape). IsLeast vs (meets w) at) c.shape.ensures
    (c.in_ok-at.ensures.least (meets w) (subst (λ (vs : List VarShape). IsAnswer vs (meets w) (Some c.args.rank)) (sym c.shape.ensures) c.requires)) in
    due.served at least (ap (answered Done) (c.of.ensures ∙ c.in_ok-text.ensures ∙ ap (λ (l : List ℕ). due.dma_text w l) c.as_slice.ensures.value))
