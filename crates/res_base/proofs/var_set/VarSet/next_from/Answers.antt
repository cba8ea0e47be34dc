use Rattle.std.proofs.Common.{arith}
use Rattle.res_base.specs.VarSet.{in_set}
use Rattle.res_base.proofs.VarSetLemmas.{rest_next, next_on, none_on}
use Rattle.res_base.proofs.var_set.VarSet.next_from.Goals as goal

pub returns-then-rest-ne0 : goal.returns-then-rest-ne0
returns-then-rest-ne0 c =
    let s = c.args.self.now in
    let at = c.loop-at.at in
    let i = c.loop-at.invariant in
    next_on (in_set s) c.args.from at _ i.0 i.2 (rest_next s at c.loop-at-test.true (omega arith) (omega arith))

pub loop-at-preserved : goal.loop-at-preserved
loop-at-preserved c =
    let i = c.loop-at.invariant in
    (omega (arith, i.0), omega (arith, i.1), none_on c.args.self.now c.args.from c.loop-at.at c.loop-at-test.true i.2 c.if-rest-ne0.false)
