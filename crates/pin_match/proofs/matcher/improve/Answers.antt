use Rattle.std.proofs.Common.{length, ◌≡◌, ◌+◌, sym, subst, ◌∙◌, arith}
use Rattle.pin_match.specs.declared.matching.Match.{Match}
use Rattle.pin_match.specs.Assignments.{size_of}
use Rattle.pin_match.specs.Sets.{fits_in}
use Rattle.pin_match.specs.Pairs.{Carried, IsMatch, given_in}
use Rattle.pin_match.specs.Walks.{from_in}
use Rattle.pin_match.proofs.PairLemmas.{carried_next, carried_less, carried_end}
use Rattle.pin_match.proofs.matcher.improve.Goals as goal

pub give-requires-clause-held : goal.give-requires-clause-held
give-requires-clause-held c s e =
    let k = c.loop-let_go.invariant.0 in
    omega (arith, (k.is_match.paired.given c.loop-let_go.variable s k.offer.variable e).0, k.is_match.paired.few_resources)

pub loop-let_go-smaller : goal.loop-let_go-smaller
loop-let_go-smaller c = carried_less (length c.args.sets.now) c.args.resources (fits_in c.args.sets.now) (given_in c.args.matching.now) c.search.new.walk c.loop-let_go.invariant.1 c.loop-let_go.matching c.loop-let_go.variable c.loop-let_go.resource c.loop-let_go.invariant.0 c.in-Some-give.let_go (sym c.give.ensures.had ∙ c.in-Some-give.is)

pub loop-let_go-preserved : goal.loop-let_go-preserved
loop-let_go-preserved c = (
  subst (λ (x : Match). Carried (length c.args.sets.now) c.args.resources (fits_in c.args.sets.now) (given_in c.args.matching.now) c.search.new.walk x (from_in c.search.new.walk c.loop-let_go.variable) c.in-Some-give.let_go) (sym c.give.ensures.gave)
      (carried_next (length c.args.sets.now) c.args.resources (fits_in c.args.sets.now) (given_in c.args.matching.now) c.search.new.walk c.loop-let_go.invariant.1 c.loop-let_go.matching c.loop-let_go.variable c.loop-let_go.resource c.loop-let_go.invariant.0 c.in-Some-give.let_go (sym c.give.ensures.had ∙ c.in-Some-give.is)),
  c.loop-let_go.invariant.1,
)

pub returns-clause-matched : goal.returns-clause-matched
returns-clause-matched c =
    subst (λ (x : Match). IsMatch (length c.args.sets.now) c.args.resources (fits_in c.args.sets.now) x) (sym c.give.ensures.gave)
    (carried_end (length c.args.sets.now) c.args.resources (fits_in c.args.sets.now) (given_in c.args.matching.now) c.search.new.walk c.loop-let_go.invariant.1 c.loop-let_go.matching c.loop-let_go.variable c.loop-let_go.resource c.loop-let_go.invariant.0 (sym c.give.ensures.had ∙ c.in_default-give.is)).0

pub returns-clause-improved : goal.returns-clause-improved
returns-clause-improved c =
    subst (λ (x : Match). size_of (length c.args.sets.now) (given_in x) ≡ size_of (length c.args.sets.now) (given_in c.args.matching.now) + 1) (sym c.give.ensures.gave)
    (carried_end (length c.args.sets.now) c.args.resources (fits_in c.args.sets.now) (given_in c.args.matching.now) c.search.new.walk c.loop-let_go.invariant.1 c.loop-let_go.matching c.loop-let_go.variable c.loop-let_go.resource c.loop-let_go.invariant.0 (sym c.give.ensures.had ∙ c.in_default-give.is)).1
