use Rattle.std.proofs.Common.{sym, append-nil, arith}
use Rattle.big_case.specs.Case.{joined, placed_output}
use Rattle.big_case.proofs.JoinedLemmas.{one_more, all}
use Rattle.big_case.proofs.projects.put_placed_outputs.Goals as goal

pub loop-i-init : goal.loop-i-init
unfolding joined
loop-i-init c = sym (append-nil c.args.out.now.items)

pub loop-i-preserved : goal.loop-i-preserved
loop-i-preserved c = one_more placed_output c.args.out.now.items c.loop-i.out.items c.put_placed_output.new.out.items c.loop-i.i c.loop-i.invariant c.in_ok-put_placed_output.ensures

pub returns : goal.returns
returns c = all placed_output c.args.out.now.items c.loop-i.out.items c.loop-i.i 80 (omega arith) c.loop-i.invariant
