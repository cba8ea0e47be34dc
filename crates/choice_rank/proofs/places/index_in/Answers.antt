use Rattle.std.proofs.Common.{ℕ, get_or, length, refl, ap, arith}
use Rattle.choice_rank.proofs.ChoiceLemmas.{choice_length}
use Rattle.choice_rank.proofs.WeightLemmas.{index_next, index_part, length_weights}
use Rattle.choice_rank.proofs.places.index_in.Goals as goal

pub bounds-at-i : goal.bounds-at-i
bounds-at-i c = omega (arith, choice_length c.args.vars.now c.args.at.now c.requires.choice)

pub bounds-weights-i : goal.bounds-weights-i
bounds-weights-i c = omega (arith, ap (length {A = ℕ}) c.requires.weights, length_weights c.args.vars.now)

pub overflow_mul-index : goal.overflow_mul-index
overflow_mul-index c =
    let part = index_part c.args.vars.now c.args.weights.now c.args.at.now c.loop-i.i c.loop-i.index c.from.result (get_or c.args.weights.now c.loop-i.i 0)
    c.requires.shape.narrow c.requires.choice c.requires.weights c.loop-i-test.true c.loop-i.invariant c.from.ensures refl in
    record { fits = omega (arith, part) }

pub overflow_add-index : goal.overflow_add-index
overflow_add-index c =
    let part = index_part c.args.vars.now c.args.weights.now c.args.at.now c.loop-i.i c.loop-i.index c.from.result (get_or c.args.weights.now c.loop-i.i 0)
    c.requires.shape.narrow c.requires.choice c.requires.weights c.loop-i-test.true c.loop-i.invariant c.from.ensures refl in
    record { fits = omega (arith, part) }

pub loop-i-preserved : goal.loop-i-preserved
loop-i-preserved c =
    index_next c.args.vars.now c.args.weights.now c.args.at.now c.loop-i.i c.loop-i.index c.from.result (get_or c.args.weights.now c.loop-i.i 0)
    c.requires.choice c.requires.weights c.loop-i-test.true c.loop-i.invariant c.from.ensures refl
