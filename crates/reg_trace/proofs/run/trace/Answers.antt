use Rattle.reg_trace.proofs.RunLemmas.{refused, told}
use Rattle.reg_trace.proofs.run.trace.Goals as goal

pub returns-in-Ok : goal.returns-in-Ok
returns-in-Ok c =
    told c.args.t.now c.args.want.now c.args.ops.now c.args.answers.now c.in_ok-machine.machine c.new-out.result.items c.put_run.new.out.items c.in_ok-machine.ensures c.new-out.ensures.items
    c.in-Ok.ensures.0 c.in-Ok.ensures.1

pub returns : goal.returns
returns c =
    refused c.args.t.now c.args.want.now c.args.ops.now c.args.answers.now c.in_ok-machine.machine c.new-out.result.items c.put_run.new.out.items c.in-Err.fault c.in_ok-machine.ensures
    c.in-Err.ensures
