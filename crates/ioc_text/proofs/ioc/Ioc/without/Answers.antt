use Rattle.std.proofs.Common.{◌∙◌, [], ◌∷◌, ◌++◌, ap, sym}
use Rattle.ioc_text.proofs.OutLemmas.{left_by}
use Rattle.ioc_text.proofs.ioc.Ioc.without.Goals as goal

pub returns : goal.returns
returns c =
    left_by c.self.inside.outs.items c.in_ok-outs.outs.items c.self.inside.read.value.lines.items c.in_ok-read.read.value.lines.items c.args.self.now c.args.number (sym c.self.view_is)
    (c.in_ok-outs.ensures ∙ ap (λ o. o ++ c.args.number ∷ []) c.as_slice.ensures.value)
    (ap (λ r. r.lines.items) c.in_ok-read.ensures.cases)
