use Rattle.std.proofs.Common.{◌∙◌, ◌+◌, List, sym, ap, arith}
use Rattle.res_model.specs.Steps.{with_prefix}
use Rattle.ioc_lines.specs.Lines.{TextLine, text_line, text_lines}
use Rattle.ioc_write.specs.WriteBack.{line_written, lines_written}
use Rattle.ioc_write.proofs.Walks.{line_put}
use Rattle.ioc_write.proofs.write.put_lines.Goals as goal

pub write-preserved : goal.write-preserved
write-preserved c =
    let p = c.args.plan.now.problem.now in
    let at = c.args.plan.now.at.now in
    let pins = c.args.plan.now.pins in
    let n = c.write.number + 1 in
    let l = text_line c.first_line.result.0.now c.first_line.result.1.now in
    let more = lines_written p at pins (n + 1) (text_lines c.first_line.result.2.now) in
    record {
      same =
          line_put c.write.out.items c.put_line.new.out.items (line_written p at pins n l) more c.in_ok-put_line.ensures
          ∙ ap (λ (ls : List TextLine). with_prefix c.write.out.items (lines_written p at pins n ls)) (sym c.first_line.ensures.lines)
          ∙ c.write.invariant.same;
      few = omega arith;
    }
