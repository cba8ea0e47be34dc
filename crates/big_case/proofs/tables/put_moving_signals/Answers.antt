use Rattle.std.proofs.Common.{sym, append-nil, arith}
use Rattle.big_case.specs.Case.{joined, moving_signal}
use Rattle.big_case.proofs.JoinedLemmas.{one_more, all}
use Rattle.big_case.proofs.tables.put_moving_signals.Goals as goal

pub loop-j-init : goal.loop-j-init
unfolding joined
loop-j-init c = sym (append-nil c.args.out.now.items)

pub loop-j-preserved : goal.loop-j-preserved
loop-j-preserved c = one_more moving_signal c.args.out.now.items c.loop-j.out.items c.put_moving_signal.new.out.items c.loop-j.j c.loop-j.invariant c.in_ok-put_moving_signal.ensures

pub returns : goal.returns
returns c = all moving_signal c.args.out.now.items c.loop-j.out.items c.loop-j.j 13 (omega arith) c.loop-j.invariant
