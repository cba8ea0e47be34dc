use Rattle.std.proofs.Common.{List, ℕ, sym, ap, subst, ◌∙◌, arith}
use Rattle.choice_rank.specs.Choices.{IsChoice}
use Rattle.can_timing.specs.Timings.{can_shape, timing_of}
use Rattle.can_timing.proofs.TimingLemmas.{lows_are, lows_choose}
use Rattle.can_timing.proofs.corners.least_in.Goals as goal

pub timing_of-requires : goal.timing_of-requires
timing_of-requires c = subst (λ (at : List ℕ). IsChoice can_shape at) (sym c.first_four.ensures) (lows_choose c.args.b.now.lo c.args.b.now.hi (omega arith) (omega arith) c.requires)

pub returns : goal.returns
returns c = c.timing_of.ensures ∙ ap timing_of (c.first_four.ensures ∙ lows_are c.args.b.now.lo c.args.b.now.hi (omega arith) (omega arith) c.requires)
