use Rattle.std.proofs.Common.{ℕ, Result, sym, subst, ap, ◌∙◌}
use Rattle.std.specs.Prelude.{map, string_bytes}
use Rattle.answers.specs.Said.{number_of}
use Rattle.call_io.specs.Inputs.{Reads, Wrote, reads, wrote}
use Rattle.call_io.specs.Ran.{Ended}
use Rattle.call_io.proofs.ServedLemmas.{complete}
use Rattle.cmd_words.specs.Words.{command_of}
use Rattle.cmd_words.specs.declared.command.Command.{Command}
use Rattle.cmd_words.specs.declared.fault.UsageFault.{UsageFault}
use Rattle.resolver.specs.Due.{Due, IsUsage, names_of}
use Rattle.resolver.proofs.InputLemmas.{no_usage}
use Rattle.resolver.proofs.top.run_plain.Goals as goal

pub returns-else-may_wait-clause-ran : goal.returns-else-may_wait-clause-ran
returns-else-may_wait-clause-ran g c =
    let asked : Result Command UsageFault = command_of (map string_bytes c.args.words.now) in
    let before : Reads = reads (g.I.Inputs.files c.args.inputs.now) (g.I.Inputs.faults c.args.inputs.now) (g.I.Inputs.current c.args.inputs.now) (g.I.Inputs.taken c.args.inputs.now) in
    let after : Reads = reads (g.I.Inputs.files c.serve.new.inputs) (g.I.Inputs.faults c.serve.new.inputs) (g.I.Inputs.current c.serve.new.inputs) (g.I.Inputs.taken c.serve.new.inputs) in
    let out_before : Wrote = wrote (g.K.Sink.written c.args.out.now) (g.K.Sink.faults c.args.out.now) in
    let out_after : Wrote = wrote (g.K.Sink.written c.serve.new.out) (g.K.Sink.faults c.serve.new.out) in
    let ended = subst (λ (a : Result Command UsageFault). Ended (names_of a) (Due a) before after out_before out_after c.serve.result) (sym c.in-Ok.ensures.gives) c.serve.ensures.ended in
    (c.serve.result, c.number.ensures, ended)

pub returns-else-may_wait-clause-complete : goal.returns-else-may_wait-clause-complete
returns-else-may_wait-clause-complete g c =
    let asked : Result Command UsageFault = command_of (map string_bytes c.args.words.now) in
    let before : Reads = reads (g.I.Inputs.files c.args.inputs.now) (g.I.Inputs.faults c.args.inputs.now) (g.I.Inputs.current c.args.inputs.now) (g.I.Inputs.taken c.args.inputs.now) in
    let after : Reads = reads (g.I.Inputs.files c.serve.new.inputs) (g.I.Inputs.faults c.serve.new.inputs) (g.I.Inputs.current c.serve.new.inputs) (g.I.Inputs.taken c.serve.new.inputs) in
    let out_before : Wrote = wrote (g.K.Sink.written c.args.out.now) (g.K.Sink.faults c.args.out.now) in
    let out_after : Wrote = wrote (g.K.Sink.written c.serve.new.out) (g.K.Sink.faults c.serve.new.out) in
    let ended = subst (λ (a : Result Command UsageFault). Ended (names_of a) (Due a) before after out_before out_after c.serve.result) (sym c.in-Ok.ensures.gives) c.serve.ensures.ended in
    λ none. complete (names_of asked) (Due asked) before after out_before out_after c.number.result none (c.serve.result, c.number.ensures, ended)

pub returns-in-Err-clause-ran : goal.returns-in-Err-clause-ran
returns-in-Err-clause-ran g c =
    let asked : Result Command UsageFault = command_of (map string_bytes c.args.words.now) in
    let before : Reads = reads (g.I.Inputs.files c.args.inputs.now) (g.I.Inputs.faults c.args.inputs.now) (g.I.Inputs.current c.args.inputs.now) (g.I.Inputs.taken c.args.inputs.now) in
    let out_before : Wrote = wrote (g.K.Sink.written c.args.out.now) (g.K.Sink.faults c.args.out.now) in
    let out_after : Wrote = wrote (g.K.Sink.written c.refuse.new.out) (g.K.Sink.faults c.refuse.new.out) in
    let ended = c.refuse.ensures.said asked c.in-Err.ensures.gives before in
    (c.refuse.result, c.number-in-Err.ensures, ended)

pub returns-in-Err-clause-complete : goal.returns-in-Err-clause-complete
returns-in-Err-clause-complete g c =
    let asked : Result Command UsageFault = command_of (map string_bytes c.args.words.now) in
    let before : Reads = reads (g.I.Inputs.files c.args.inputs.now) (g.I.Inputs.faults c.args.inputs.now) (g.I.Inputs.current c.args.inputs.now) (g.I.Inputs.taken c.args.inputs.now) in
    let out_before : Wrote = wrote (g.K.Sink.written c.args.out.now) (g.K.Sink.faults c.args.out.now) in
    let out_after : Wrote = wrote (g.K.Sink.written c.refuse.new.out) (g.K.Sink.faults c.refuse.new.out) in
    let ended = c.refuse.ensures.said asked c.in-Err.ensures.gives before in
    λ none. complete (names_of asked) (Due asked) before before out_before out_after c.number-in-Err.result none (c.refuse.result, c.number-in-Err.ensures, ended)

pub returns-else-may_wait-clause-usage : goal.returns-else-may_wait-clause-usage
returns-else-may_wait-clause-usage g c =
    let asked : Result Command UsageFault = command_of (map string_bytes c.args.words.now) in
    subst (λ (n : ℕ). IsUsage asked n) (sym c.number.ensures) (no_usage asked c.in-Ok.command c.serve.result c.in-Ok.ensures.gives c.serve.ensures.no_usage)

pub returns-in-Err-clause-usage : goal.returns-in-Err-clause-usage
returns-in-Err-clause-usage g c =
    let asked : Result Command UsageFault = command_of (map string_bytes c.args.words.now) in
    subst (λ (n : ℕ). IsUsage asked n) (sym c.number-in-Err.ensures) (c.refuse.ensures.usage asked c.in-Err.ensures.gives)

pub returns-in-Err-clause-some : goal.returns-in-Err-clause-some
returns-in-Err-clause-some g c =
    λ no. c.refuse.ensures.waits (command_of (map string_bytes c.args.words.now)) c.in-Err.ensures.gives (λ e. no (c.number-in-Err.ensures ∙ ap number_of e))
