use Rattle.std.proofs.Common.{length, ◌<◌, arith}
use Rattle.pin_match.specs.Sets.{fits_in}
use Rattle.pin_match.proofs.HallLemmas.{lost_paired, lost_fits}
use Rattle.pin_match.proofs.matching.keep.Goals as goal
use Rattle.pin_match.proofs.matching.keep.Goals.{In-Some}

below : (c : In-Some) → c.in-Some.resource < 192
below c = let k = c.loop-variable.invariant.0 in omega (arith, (k.given c.loop-variable.variable c.in-Some.resource c.loop-variable-test.true c.in-Some.is).0, k.few_resources)

pub fits-requires-clause-resource : goal.fits-requires-clause-resource
fits-requires-clause-resource c = below (goal.at.fits-requires-clause-resource c).In-Some

pub bounds-matching-resource : goal.bounds-matching-resource
bounds-matching-resource c = below (goal.at.bounds-matching-resource c).In-Some

pub loop-variable-preserved : goal.loop-variable-preserved
loop-variable-preserved c = (
  lost_paired (length c.args.sets.now) c.args.resources c.loop-variable.matching c.loop-variable.invariant.0 c.loop-variable.variable c.in-Some.resource c.loop-variable-test.true c.in-Some.is,
  lost_fits (length c.args.sets.now) c.args.resources c.loop-variable.matching c.loop-variable.invariant.0 c.loop-variable.variable c.in-Some.resource c.loop-variable-test.true c.in-Some.is (fits_in c.args.sets.now) c.loop-variable.invariant.1,
)
