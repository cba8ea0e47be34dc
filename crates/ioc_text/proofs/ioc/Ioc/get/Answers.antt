use Rattle.std.proofs.Common.{◌∙◌, List, ap, sym}
use Rattle.std.specs.Option.{option_copied}
use Rattle.ioc_text.specs.Lines.{line_at}
use Rattle.ioc_text.specs.Outs.{unless_out}
use Rattle.ioc_text.specs.declared.line.Line.{Line}
use Rattle.ioc_text.proofs.OutLemmas.{found_by}
use Rattle.ioc_text.proofs.ioc.Ioc.get.Goals as goal

pub returns : goal.returns
returns c =
    found_by c.self.inside.outs.items c.self.inside.read.value.lines.items c.args.self.now c.args.key.now c.self.invariant.1 (sym c.self.view_is) _ _
    (c.line_of-found.ensures ∙ ap (λ (ls : List Line). line_at ls c.args.key.now) (c.as_slice-lines.ensures.value ∙ ap (λ r. r.lines.items) c.deref.ensures))
    (c.unless_out.ensures ∙ ap (λ o. unless_out o (option_copied c.line_of-found.result)) c.as_slice-2.ensures.value)
