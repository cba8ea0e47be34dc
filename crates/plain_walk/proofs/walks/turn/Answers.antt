use Rattle.std.proofs.Common.{◌≡◌, ◌∙◌, ◌+◌, ◌<◌, ◌%◌, ℕ, Some, true, false, sym, subst}
use Rattle.std.proofs.Math.Nat.{mod-eq_of_lt}
use Rattle.choice_rank.specs.Choices.{choices_of, index_of, rank_of}
use Rattle.plain_walk.specs.SoFar.{IsLowestBelow, lower}
use Rattle.plain_walk.proofs.WalkLemmas.{legal_turn, illegal_turn}
use Rattle.plain_walk.proofs.walks.turn.Goals as goal

pub returns-then-branch : goal.returns-then-branch
returns-then-branch g c =
    let vars = c.args.shape.now in
    let at = c.unrank_into.new.at in
    let legal = g.L.Legality.legal c.args.limits.now in
    let index : index_of vars at ≡ c.args.index = c.unrank_into.ensures.index ∙ mod-eq_of_lt c.requires.within in
    let ok : legal at ≡ true = sym c.in_ok-is_legal.ensures ∙ c.if-branch.true in
    let turned = legal_turn vars legal c.args.index at c.unrank_into.ensures.choice index c.args.best ok c.requires.best in
    let rank : lower c.args.best (rank_of vars at) ≡ c.lower.result = rw (← c.rank.ensures) (sym c.lower.ensures) in
    subst (λ (r : ℕ). IsLowestBelow vars legal (c.args.index + 1) (Some r)) rank turned

pub returns-else-branch : goal.returns-else-branch
returns-else-branch g c =
    let vars = c.args.shape.now in
    let at = c.unrank_into.new.at in
    let legal = g.L.Legality.legal c.args.limits.now in
    let index : index_of vars at ≡ c.args.index = c.unrank_into.ensures.index ∙ mod-eq_of_lt c.requires.within in
    let bad : legal at ≡ false = sym c.in_ok-is_legal.ensures ∙ c.if-branch.false in
    illegal_turn vars legal c.args.index at c.unrank_into.ensures.choice index c.args.best bad c.requires.best
