use Rattle.std.proofs.Common.{◌≡◌, refl, rules, arith}
use Rattle.choice_rank.specs.Choices.{IsChoice, cost_of, index_of}
use Rattle.choice_rank.proofs.ChoiceLemmas.{rank_fits}
use Rattle.choice_rank.proofs.shape.Shape.rank.Goals as goal

pub overflow_mul-result : goal.overflow_mul-result
overflow_mul-result c =
    let vs = c.self.inside.vars.items in
    let choice : IsChoice vs c.args.at.now = rw c.self.view_is c.requires in
    let cost : c.from-cost.result ≡ cost_of vs c.args.at.now = search rules in
    let small = rank_fits vs c.args.at.now c.from-cost.result c.self.inside.choices (index_of vs c.args.at.now) c.self.invariant.0.narrow choice cost c.self.invariant.2 refl in
    record { fits = omega (arith, small) }

pub overflow_add-result : goal.overflow_add-result
overflow_add-result c =
    let vs = c.self.inside.vars.items in
    let choice : IsChoice vs c.args.at.now = rw c.self.view_is c.requires in
    let cost : c.from-cost.result ≡ cost_of vs c.args.at.now = search rules in
    let index : c.index_in.result ≡ index_of vs c.args.at.now = search rules in
    let small = rank_fits vs c.args.at.now c.from-cost.result c.self.inside.choices c.index_in.result c.self.invariant.0.narrow choice cost c.self.invariant.2 index in
    record { fits = omega (arith, small) }
