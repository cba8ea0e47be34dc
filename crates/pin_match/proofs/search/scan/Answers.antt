use Rattle.std.proofs.Common.{length, ◌+◌, ◌<◌, sym, subst, arith}
use Rattle.pin_match.specs.declared.walk.Walk.{Walk}
use Rattle.pin_match.specs.Sets.{fits_in}
use Rattle.pin_match.specs.Walks.{Scanned}
use Rattle.pin_match.specs.Pairs.{given_in}
use Rattle.pin_match.proofs.SearchLemmas.{owner_below, scanned_to, scanned_old, scanned_new, scan_room}
use Rattle.pin_match.proofs.search.scan.Goals as goal
use Rattle.pin_match.proofs.search.scan.Goals.{In-Some-owner}

-- the resources below the one at hand
so_far : (c : In-Some-owner) → Scanned (length c.args.sets.now) (fits_in c.args.sets.now) (given_in c.args.matching.now) c.args.walk.now c.loop-resource.walk c.args.variable c.in-Some.resource
so_far c = scanned_to (length c.args.sets.now) (fits_in c.args.sets.now) (given_in c.args.matching.now) c.args.walk.now c.loop-resource.walk c.args.variable c.loop-resource.at c.loop-resource.invariant.0 c.in-Some.resource c.in-Some.ensures

below : (c : In-Some-owner) → c.in-Some-owner.owner < 192
below c =
    let h = owner_below (length c.args.sets.now) c.args.resources (fits_in c.args.sets.now) c.args.matching.now c.requires.matched c.args.walk.now c.loop-resource.walk c.args.variable c.in-Some.resource c.in-Some-owner.owner (so_far c) c.if-resource-resources.false c.in-Some-owner.is in
    omega (arith, h, c.requires.walk.few)

pub bounds-walk-owner : goal.bounds-walk-owner
bounds-walk-owner c = below (goal.at.bounds-walk-owner c).In-Some-owner

pub reach-requires-clause-variable : goal.reach-requires-clause-variable
reach-requires-clause-variable c = below (goal.at.reach-requires-clause-variable c).In-Some-owner

pub reach-requires-clause-room : goal.reach-requires-clause-room
reach-requires-clause-room c =
    let h = scan_room (length c.args.sets.now) c.args.resources (fits_in c.args.sets.now) c.args.matching.now c.requires.matched c.args.walk.now c.loop-resource.walk c.args.variable c.in-Some.resource c.in-Some-owner.owner (so_far (goal.at.reach-requires-clause-room c).In-Some-owner) c.if-resource-resources.false c.in-Some-owner.is
    c.requires.variable c.requires.reached c.in-Some.ensures.member c.if-walk-owner.false in
    omega (arith, h, c.requires.walk.few)

pub loop-resource-preserved-then-walk-owner : goal.loop-resource-preserved-then-walk-owner
loop-resource-preserved-then-walk-owner c = (
  scanned_old (length c.args.sets.now) c.args.resources (fits_in c.args.sets.now) c.args.matching.now c.requires.matched c.args.walk.now c.loop-resource.walk c.args.variable c.in-Some.resource c.in-Some-owner.owner (so_far (goal.at.loop-resource-preserved-then-walk-owner c).In-Some-owner) c.if-resource-resources.false c.in-Some-owner.is c.if-walk-owner.true,
  omega (arith, c.in-Some.ensures.below),
)

pub loop-resource-preserved : goal.loop-resource-preserved
loop-resource-preserved c = (
  subst (λ (x : Walk). Scanned (length c.args.sets.now) (fits_in c.args.sets.now) (given_in c.args.matching.now) c.args.walk.now x c.args.variable (c.in-Some.resource + 1)) (sym c.reach.ensures)
      (scanned_new (length c.args.sets.now) c.args.resources (fits_in c.args.sets.now) c.args.matching.now c.requires.matched c.args.walk.now c.loop-resource.walk c.args.variable c.in-Some.resource c.in-Some-owner.owner (so_far (goal.at.loop-resource-preserved c).In-Some-owner) c.if-resource-resources.false c.in-Some-owner.is
      c.requires.variable c.requires.reached c.in-Some.ensures.member c.if-walk-owner.false),
  omega (arith, c.in-Some.ensures.below),
)
