use Rattle.std.proofs.lemmas.Result.{IfOk-weaker}
use Rattle.std.proofs.Common.{None}
use Rattle.call_io.specs.Inputs.{Reads, reads, wrote}
use Rattle.call_io.proofs.ServedLemmas.{ended}
use Rattle.resolver.specs.Due.{Due, names_of}
use Rattle.resolver.proofs.InputLemmas.{no_waiting, said_of_words, unread_words}
use Rattle.resolver.proofs.top.refuse.Goals as goal

pub returns-clause-said : goal.returns-clause-said
returns-clause-said g c =
    λ asked refuses r. ended (names_of asked) (Due asked) r r (wrote (g.K.Sink.written c.args.out.now) (g.K.Sink.faults c.args.out.now)) (wrote (g.K.Sink.written c.write_answer.new.out) (g.K.Sink.faults c.write_answer.new.out)) c.write_answer.result c.refused_words-answer.result
    (IfOk-weaker c.refused_words-answer.result _ _ (λ a said. unread_words c.args.refusal asked r a refuses said) c.refused_words-answer.ensures) c.write_answer.ensures

pub returns-clause-waits : goal.returns-clause-waits
returns-clause-waits g c =
    λ asked refuses no. no_waiting c.args.refusal asked c.refused_words-answer.result (wrote (g.K.Sink.written c.args.out.now) (g.K.Sink.faults c.args.out.now)) (wrote (g.K.Sink.written c.write_answer.new.out) (g.K.Sink.faults c.write_answer.new.out)) c.write_answer.result refuses c.refused_words-answer.ensures c.write_answer.ensures no

pub returns-clause-usage : goal.returns-clause-usage
returns-clause-usage g c =
    λ asked refuses.
    let r : Reads = reads None (λ name. 0) None 0 in
    let ob = wrote (g.K.Sink.written c.args.out.now) (g.K.Sink.faults c.args.out.now) in
    let oa = wrote (g.K.Sink.written c.write_answer.new.out) (g.K.Sink.faults c.write_answer.new.out) in
    let how = ended (names_of asked) (Due asked) r r ob oa c.write_answer.result c.refused_words-answer.result
    (IfOk-weaker c.refused_words-answer.result _ _ (λ a said. unread_words c.args.refusal asked r a refuses said) c.refused_words-answer.ensures) c.write_answer.ensures in
    said_of_words c.args.refusal asked r r c.refused_words-answer.result ob oa c.write_answer.result refuses c.refused_words-answer.ensures c.write_answer.ensures how
