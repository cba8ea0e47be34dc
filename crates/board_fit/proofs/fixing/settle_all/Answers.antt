use Rattle.std.proofs.Common.{ap, arith, set}
use Rattle.board_fit.proofs.FixLemmas.{all_done, one_settled}
use Rattle.board_fit.proofs.fixing.settle_all.Goals as goal

pub loop-k-preserved : goal.loop-k-preserved
loop-k-preserved c =
    let q = c.args.q.now in
    let at = c.args.at.now in
    let new = c.loop-k.signals in
    let k = c.loop-k.k in
    let u = c.first_use-used.result in
    let d = c.index-signals-k.result in
    one_settled q at c.args.signals.now new (set new k c.settle.new.signal) k u d (omega (arith, c.loop-k-test.true, c.loop-k.auto.signals)) c.loop-k.invariant c.first_use-used.ensures
    (ap (set new k) c.settle.ensures)

pub returns : goal.returns
returns c = all_done c.args.q.now c.args.at.now c.args.signals.now c.loop-k.signals c.loop-k.k (omega (arith, c.loop-k-test.false, c.loop-k.auto.signals, c.loop-k.auto.k-end)) c.loop-k.invariant
