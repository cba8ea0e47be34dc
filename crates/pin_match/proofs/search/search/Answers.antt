use Rattle.std.proofs.Common.{length}
use Rattle.pin_match.specs.Sets.{fits_in}
use Rattle.pin_match.specs.Pairs.{given_in}
use Rattle.pin_match.proofs.SearchLemmas.{searched_first, searched_end}
use Rattle.pin_match.proofs.search.search.Goals as goal

pub loop-head-init : goal.loop-head-init
loop-head-init c = searched_first (length c.args.sets.now) c.args.resources (fits_in c.args.sets.now) (given_in c.args.matching.now) c.start.new.walk c.start.ensures

pub returns-clause-searched : goal.returns-clause-searched
returns-clause-searched c = record {
  is_walk = c.loop-head.invariant.is_walk;
  is_reached = searched_end (length c.args.sets.now) (fits_in c.args.sets.now) (given_in c.args.matching.now) c.args.resources c.loop-head.walk c.loop-head.head c.loop-head.invariant c.loop-head-test.false;
}
