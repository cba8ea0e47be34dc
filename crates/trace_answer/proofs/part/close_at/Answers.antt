use Rattle.std.proofs.Common.{◌≡◌, false, arith, rules}
use Rattle.std.specs.Prelude.{codes}
use Rattle.std.specs.Str.{bytes_eq}
use Rattle.trace_answer.proofs.PartLemmas.{closes_all, closes_past}
use Rattle.trace_answer.proofs.part.close_at.Goals as goal

pub lines-init : goal.lines-init
lines-init c = record { closes = closes_all c.args.text.now; shorter = omega arith }

pub lines-preserved : goal.lines-preserved
lines-preserved c =
    let first = c.first_line-ended.result in
    let apart : bytes_eq first.0.now (codes "}") ≡ false = search rules in
    record {
      closes = closes_past c.args.text.now c.lines.rest.now first.0.now first.2.now first.1 c.lines.invariant.closes c.first_line-ended.ensures.line c.first_line-ended.ensures.bytes apart;
      shorter = omega (arith, c.first_line-ended.ensures.shorter, c.lines.invariant.shorter);
    }
