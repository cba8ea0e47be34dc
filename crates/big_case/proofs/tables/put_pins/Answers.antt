use Rattle.std.proofs.Common.{sym, append-nil, arith}
use Rattle.big_case.specs.Case.{joined, listed_pin}
use Rattle.big_case.proofs.JoinedLemmas.{one_more, all}
use Rattle.big_case.proofs.tables.put_pins.Goals as goal

pub loop-k-init : goal.loop-k-init
unfolding joined
loop-k-init c = sym (append-nil c.args.out.now.items)

pub loop-k-preserved : goal.loop-k-preserved
loop-k-preserved c = one_more listed_pin c.args.out.now.items c.loop-k.out.items c.put_listed_pin.new.out.items c.loop-k.k c.loop-k.invariant c.in_ok-put_listed_pin.ensures

pub returns : goal.returns
returns c = all listed_pin c.args.out.now.items c.loop-k.out.items c.loop-k.k 112 (omega arith) c.loop-k.invariant
