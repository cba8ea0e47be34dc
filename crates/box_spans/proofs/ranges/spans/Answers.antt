use Rattle.std.proofs.Common.{subst, sym}
use Rattle.clock_limits.specs.Ranges.{Allowed}
use Rattle.clock_limits.specs.Fair.{IsFair}
use Rattle.box_spans.proofs.EveryLemmas.{every_is_fair}
use Rattle.box_spans.proofs.ranges.spans.Goals as goal

pub over-requires-clause-fair : goal.over-requires-clause-fair
over-requires-clause-fair c =
    subst (λ (a : Allowed). IsFair a) (sym c.all_runs.ensures) (every_is_fair c.args.values.now c.requires.filled c.requires.in_range)
