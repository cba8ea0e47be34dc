use Rattle.call_io.specs.Inputs.{reads, wrote}
use Rattle.call_io.proofs.ServedLemmas.{ended, written_is_no_usage}
use Rattle.cmd_words.specs.Asked.{inputs_of}
use Rattle.resolver.specs.Due.{OfCommand}
use Rattle.resolver.proofs.top.serve_by.Goals as goal

pub returns-clause-ended : goal.returns-clause-ended
returns-clause-ended g c =
    ended (inputs_of c.args.command) (OfCommand c.args.command) (reads (g.I.Inputs.files c.args.inputs.now) (g.I.Inputs.faults c.args.inputs.now) (g.I.Inputs.current c.args.inputs.now) (g.I.Inputs.taken c.args.inputs.now)) (reads (g.I.Inputs.files c.answer_by-answer.new.inputs) (g.I.Inputs.faults c.answer_by-answer.new.inputs) (g.I.Inputs.current c.answer_by-answer.new.inputs) (g.I.Inputs.taken c.answer_by-answer.new.inputs))
    (wrote (g.K.Sink.written c.args.out.now) (g.K.Sink.faults c.args.out.now)) (wrote (g.K.Sink.written c.write_answer.new.out) (g.K.Sink.faults c.write_answer.new.out)) c.write_answer.result c.answer_by-answer.result c.answer_by-answer.ensures.served c.write_answer.ensures

pub returns-clause-no_usage : goal.returns-clause-no_usage
returns-clause-no_usage g c =
    written_is_no_usage c.answer_by-answer.result (wrote (g.K.Sink.written c.args.out.now) (g.K.Sink.faults c.args.out.now)) (wrote (g.K.Sink.written c.write_answer.new.out) (g.K.Sink.faults c.write_answer.new.out)) c.write_answer.result c.answer_by-answer.ensures.no_usage c.write_answer.ensures
