use Rattle.std.proofs.Common.{◌∙◌}
use Rattle.choice_rank.proofs.WidthLemmas.{grown_next, grown_wide}
use Rattle.choice_rank.proofs.shape.measured.Goals as goal

pub returns-then-most-product-clause-wide : goal.returns-then-most-product-clause-wide
returns-then-most-product-clause-wide c =
    grown_wide c.args.vars.now c.loop-i.product c.loop-i.most c.loop-i.i c.from-product.result c.from-most.result
    c.loop-i.invariant c.loop-i-test.true c.from-product.ensures (c.from-most.ensures ∙ c.most.ensures) c.requires.positions c.if-most-product.true

pub loop-i-preserved : goal.loop-i-preserved
loop-i-preserved c =
    grown_next c.args.vars.now c.loop-i.product c.loop-i.most c.loop-i.i c.from-product.result c.from-most.result
    c.loop-i.invariant c.loop-i-test.true c.from-product.ensures (c.from-most.ensures ∙ c.most.ensures) c.if-most-product.false
