use Rattle.std.proofs.Common.{◌≡◌, rules, length, refl, sym, ap, arith}
use Rattle.res_base.specs.VarSet.{IsWords}
use Rattle.pin_match.specs.Assignments.{IsFull}
use Rattle.pin_match.specs.Pairs.{given_in}
use Rattle.pin_match.specs.Sets.{fits_in}
use Rattle.pin_match.specs.Sizes.{Sizes}
use Rattle.pin_match.proofs.PairLemmas.{size_le}
use Rattle.pin_match.proofs.LargestLemmas.{hall_none, hall_is}
use Rattle.pin_match.proofs.HallLemmas.{full_of, not_full, is_hall}
use Rattle.pin_match.proofs.matcher.Matcher.hall.Goals as goal

pub grow-smaller : goal.grow-smaller
grow-smaller c = omega (arith, c.grow-test.ensures.improved, size_le (length c.args.sets.now) (given_in c.improve.new.matching))

pub returns-then-self-eq0-clause-none : goal.returns-then-self-eq0-clause-none
returns-then-self-eq0-clause-none c =
    let same : c.self.inside.resources ≡ c.args.self.now.resources = ap (λ (x : Sizes). x.resources) c.self.view_is in
    let full : IsFull c.args.self.now.variables c.args.self.now.resources (fits_in c.args.sets.now) =
    rw (← c.requires, ← same)
    (full_of (length c.args.sets.now) c.self.inside.resources (fits_in c.args.sets.now) c.improve.new.matching c.improve.new.walk c.improve.ensures.matched c.grow-test.ensures.improved c.if-self-eq0.true) in
    (λ _. full, λ _. refl)

pub returns-clause-none : goal.returns-clause-none
returns-clause-none c =
    let same : c.self.inside.resources ≡ c.args.self.now.resources = ap (λ (x : Sizes). x.resources) c.self.view_is in
    let never : IsFull c.args.self.now.variables c.args.self.now.resources (fits_in c.args.sets.now) → ⊥ =
    rw (← c.requires, ← same)
    (not_full (length c.args.sets.now) c.self.inside.resources (fits_in c.args.sets.now) c.improve.new.matching c.improve.new.walk c.improve.ensures.matched c.grow-test.ensures.improved (omega (arith, c.if-self-eq0.false)) c.reached_set.result c.reached_set.ensures) in
    (λ none. cc, λ full. absurd (never full))

pub returns-clause-left_out : goal.returns-clause-left_out
returns-clause-left_out c =
    let same : c.self.inside.resources ≡ c.args.self.now.resources = ap (λ (x : Sizes). x.resources) c.self.view_is in
    rw (← c.requires, ← same)
    (is_hall (length c.args.sets.now) c.self.inside.resources (fits_in c.args.sets.now) c.improve.new.matching c.improve.new.walk c.improve.ensures.matched c.grow-test.ensures.improved (omega (arith, c.if-self-eq0.false)) c.reached_set.result c.reached_set.ensures)

pub returns-then-self-eq0-clause-computed : goal.returns-then-self-eq0-clause-computed
returns-then-self-eq0-clause-computed c =
    let same : c.self.inside.resources ≡ c.args.self.now.resources = ap (λ (x : Sizes). x.resources) c.self.view_is in
    rw (← c.requires, ← same)
    (sym (hall_none (length c.args.sets.now) c.self.inside.resources (fits_in c.args.sets.now)
    (full_of (length c.args.sets.now) c.self.inside.resources (fits_in c.args.sets.now) c.improve.new.matching c.improve.new.walk c.improve.ensures.matched c.grow-test.ensures.improved c.if-self-eq0.true)))

pub returns-clause-computed : goal.returns-clause-computed
returns-clause-computed c =
    let words : IsWords c.reached_set.result = search (rules, c.reached_set.type_inv) in
    let same : c.self.inside.resources ≡ c.args.self.now.resources = ap (λ (x : Sizes). x.resources) c.self.view_is in
    rw (← c.requires, ← same)
    (hall_is (length c.args.sets.now) c.self.inside.resources (fits_in c.args.sets.now) c.reached_set.result c.improve.ensures.matched.paired.few
    (not_full (length c.args.sets.now) c.self.inside.resources (fits_in c.args.sets.now) c.improve.new.matching c.improve.new.walk c.improve.ensures.matched c.grow-test.ensures.improved (omega (arith, c.if-self-eq0.false)) c.reached_set.result c.reached_set.ensures)
    (is_hall (length c.args.sets.now) c.self.inside.resources (fits_in c.args.sets.now) c.improve.new.matching c.improve.new.walk c.improve.ensures.matched c.grow-test.ensures.improved (omega (arith, c.if-self-eq0.false)) c.reached_set.result c.reached_set.ensures)
    words)
