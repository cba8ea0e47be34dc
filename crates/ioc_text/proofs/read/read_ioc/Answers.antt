use Rattle.std.proofs.Common.{◌≡◌, ◌∙◌, ◌+◌, ℕ, List, Ok, Some, sym, ap, arith}
use Rattle.std.specs.Str.Lines.{lines}
use Rattle.ioc_text.specs.Lines.{ioc_after, line_of}
use Rattle.res_model.specs.Steps.{◌>>=◌}
use Rattle.ioc_text.specs.declared.line.Line.{Line}
use Rattle.ioc_text.specs.Index.{each_once}
use Rattle.ioc_text.proofs.Once.{named}
use Rattle.ioc_text.proofs.read.read_ioc.Goals as goal

pub read-preserved-in-Continue-1 : goal.read-preserved-in-Continue-1
read-preserved-in-Continue-1 c =
    let said : line_of (c.read.number + 1) c.first_line.result.0.now ≡ Ok (Some c.in-Ok-Some.line) = rw c.in-Ok-Some.field-0-is at c.in-Ok-Some.ensures in
    record {
      same =
          ap (λ (ls : List Line). each_once ls >>= (λ f. ioc_after f (c.read.number + 1 + 1) (lines c.first_line.result.1.now))) c.in_ok-push-in-Ok-Some.ensures.items
          ∙ named (c.read.number + 1) c.first_line.result.0.now (lines c.first_line.result.1.now) c.read.lines.items c.in-Ok-Some.line said
          ∙ ap (λ (texts : List (List ℕ)). each_once c.read.lines.items >>= (λ f. ioc_after f (c.read.number + 1) texts)) (sym c.first_line.ensures.lines)
          ∙ c.read.invariant.same;
      few = omega arith;
    }
