use Rattle.std.proofs.Common.{◌≡◌, ◌∙◌, ℕ, List, ap}
use Rattle.answers.specs.Said.{answered}
use Rattle.answers.specs.declared.answer.Status.TheVariants.{NoChoice}
use Rattle.explain.specs.Due.{refused, refused_text}
use Rattle.explain_text.specs.Reasons.{why}
use Rattle.explain.proofs.due.refused.Goals as goal

pub returns : goal.returns
returns c =
    let p = c.args.p.now in
    let nodes = c.args.proof.now.nodes in
    let said : c.of.result ≡ refused_text (why p nodes) c.in_ok-helps.helps.items =
    c.of.ensures ∙ c.in_ok-said.ensures
    ∙ ap (λ (l : List ℕ). refused_text l c.as_slice-2.result.now) (c.as_slice.ensures.value ∙ c.in_ok-reasons.ensures)
    ∙ ap (λ (l : List ℕ). refused_text (why p nodes) l) c.as_slice-2.ensures.value in
    refused nodes c.in-Ok.ioc c.in_ok-helps.helps.items c.requires.none c.requires.proof.canonical c.in-Ok.ensures c.in_ok-helps.ensures (ap (answered NoChoice) said)
