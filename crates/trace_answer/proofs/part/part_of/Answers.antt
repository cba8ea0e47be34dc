use Rattle.std.proofs.Common.{◌≡◌, false, arith, rules}
use Rattle.std.specs.Prelude.{codes}
use Rattle.std.specs.Str.{bytes_eq}
use Rattle.text_lines.specs.Lines.{lines_of}
use Rattle.trace_answer.specs.Part.{part_in, part_of}
use Rattle.trace_answer.proofs.PartLemmas.{behind_none, part_past}
use Rattle.trace_answer.proofs.part.part_of.Goals as goal

pub lines-init : goal.lines-init
unfolding part_in
lines-init c = record { same = behind_none (part_of (lines_of c.args.text.now)); small = omega arith }

pub lines-preserved : goal.lines-preserved
lines-preserved c =
    let first = c.first_line-ended.result in
    let apart : bytes_eq first.0.now (codes "#include <stdint.h>") ≡ false = search rules in
    record {
      same = part_past (part_in c.args.text.now) c.lines.before c.lines.rest.now first.0.now first.2.now first.1 c.lines.invariant.same c.first_line-ended.ensures.line apart;
      small = omega (arith, c.first_line-ended.ensures.shorter, c.lines.invariant.small);
    }
