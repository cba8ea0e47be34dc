use Rattle.std.proofs.Common.{◌++◌, ◌+◌, ◌-◌, ap, ◌∙◌, List, ℕ, arith}
use Rattle.problem.specs.ClockValues.{numbers_from}
use Rattle.problem.proofs.ValueLemmas.{row_next}
use Rattle.problem.proofs.clocks.between.Goals as goal

pub loop-n-preserved : goal.loop-n-preserved
loop-n-preserved c =
    let last = c.args.range.1 + 1 in
    ap (λ (v : List ℕ). v ++ numbers_from (last - (c.loop-n.n + 1)) (c.loop-n.n + 1)) c.in_ok-push.ensures.items
    ∙ row_next last c.loop-n.n c.loop-n.numbers.items (omega arith)
    ∙ c.loop-n.invariant
