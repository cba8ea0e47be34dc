use Rattle.std.proofs.Common.{sym, subst}
use Rattle.call_io.specs.Inputs.{wrote}
use Rattle.call_io.specs.Ran.{IsWritten}
use Rattle.call_io.proofs.write.write_answer.Goals as goal

pub returns-in-Ok : goal.returns-in-Ok
returns-in-Ok g c =
    subst (λ r. IsWritten r (wrote (g.K.Sink.written c.args.out.now) (g.K.Sink.faults c.args.out.now)) (wrote (g.K.Sink.written c.write_text.new.out) (g.K.Sink.faults c.write_text.new.out)) c.write_text.result) (sym c.in-Ok.is) c.write_text.ensures
