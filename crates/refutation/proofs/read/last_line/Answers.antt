use Rattle.std.proofs.Common.{rules, ◌≡◌, ◌<◌, ◌∙◌, ℕ, length, true, ap, sym}
use Rattle.std.specs.Prelude.{Err, codes}
use Rattle.std.specs.Str.{bytes_eq}
use Rattle.refutation.specs.declared.node.ProofFault.TheVariants as fault
use Rattle.refutation.specs.Reading.{lines_of}
use Rattle.refutation.proofs.CutLemmas.{past_end}
use Rattle.refutation.proofs.read.last_line.Goals as goal

pub returns-else-is_empty : goal.returns-else-is_empty
returns-else-is_empty c =
    let last : bytes_eq c.in-Some.line.now (codes "end") ≡ true = search rules in
    let more : 0 < length c.in-Some.rest.now = search rules in
    past_end c.args.number c.in-Some.line.now c.in-Some.rest.now (lines_of c.args.text.now) c.in-Some.ensures.line last more ∙ ap (λ (n : ℕ). Err (fault.Line n)) (sym c.line_after.ensures)
