use Rattle.std.proofs.Common.{ℕ, List, subst, sym}
use Rattle.std.specs.Prelude.{length}
use Rattle.std.proofs.lemmas.Result.{IfOk-weaker}
use Rattle.answers.specs.declared.answer.Answer.{Answer}
use Rattle.call_io.specs.Gathered.{AllRead, IsClear, IsGathered, IsOfBytes, Stopped}
use Rattle.call_io.specs.Inputs.{Reads, reads}
use Rattle.call_io.specs.Ran.{Served}
use Rattle.call_io.specs.declared.inputs.Gathered.{Gathered}
use Rattle.call_io.proofs.ServedLemmas.{answered_for, refused, stopped_is_no_usage}
use Rattle.cmd_words.specs.Asked.{inputs_of}
use Rattle.resolver.specs.Due.{OfBytes, OfCommand}
use Rattle.resolver.specs.Opening.{AreInputs}
use Rattle.resolver.proofs.InputLemmas.{as_inputs, if_both, read_whole, too_long}
use Rattle.resolver.proofs.top.answer_over.Goals as goal

pub of_bytes-requires-clause-files : goal.of_bytes-requires-clause-files
of_bytes-requires-clause-files g c =
    let before : Reads = reads (g.I.Inputs.files c.args.inputs.now) (g.I.Inputs.faults c.args.inputs.now) (g.I.Inputs.current c.args.inputs.now) (g.I.Inputs.taken c.args.inputs.now) in
    let after : Reads = reads (g.I.Inputs.files c.gather.new.inputs) (g.I.Inputs.faults c.gather.new.inputs) (g.I.Inputs.current c.gather.new.inputs) (g.I.Inputs.taken c.gather.new.inputs) in
    let gathered = subst (λ (q : Gathered). IsGathered c.args.names.now before after q) c.in-Files.is c.in_ok-files.ensures in
    let all : AreInputs (length c.args.names.now) c.in-Files.files.items = as_inputs before.files c.args.names.now c.in-Files.files.items gathered.0 in
    subst (λ (read : List (List ℕ)). AreInputs (length (inputs_of c.args.command)) read) (sym c.as_slice.ensures.value)
    (subst (λ (names : List (List ℕ)). AreInputs (length names) c.in-Files.files.items) c.requires.names all)

pub returns-in-Files-clause-served : goal.returns-in-Files-clause-served
returns-in-Files-clause-served g c =
    let command = c.args.command in
    let before : Reads = reads (g.I.Inputs.files c.args.inputs.now) (g.I.Inputs.faults c.args.inputs.now) (g.I.Inputs.current c.args.inputs.now) (g.I.Inputs.taken c.args.inputs.now) in
    let after : Reads = reads (g.I.Inputs.files c.gather.new.inputs) (g.I.Inputs.faults c.gather.new.inputs) (g.I.Inputs.current c.gather.new.inputs) (g.I.Inputs.taken c.gather.new.inputs) in
    let read = c.in-Files.files.items in
    let gathered = subst (λ (q : Gathered). IsGathered c.args.names.now before after q) c.in-Files.is c.in_ok-files.ensures in
    let all : AllRead before.files (inputs_of command) read = subst (λ (names : List (List ℕ)). AllRead before.files names read) c.requires.names gathered.0 in
    let clear : IsClear (inputs_of command) after = subst (λ (names : List (List ℕ)). IsClear names after) c.requires.names gathered.1 in
    if_both c.of_bytes.result (OfBytes command c.as_slice.result.now) (λ (a : Answer). IsOfBytes a.status) (Served (inputs_of command) (OfCommand command) before after) c.of_bytes.ensures.due c.of_bytes.ensures.status
    (λ a due status. answered_for (inputs_of command) (OfCommand command) before after read a all clear status.of_inputs
    (read_whole command read a (subst (λ (bytes : List (List ℕ)). OfBytes command bytes a) c.as_slice.ensures.value due)))

pub returns-in-Refused-clause-served : goal.returns-in-Refused-clause-served
returns-in-Refused-clause-served g c =
    let command = c.args.command in
    let before : Reads = reads (g.I.Inputs.files c.args.inputs.now) (g.I.Inputs.faults c.args.inputs.now) (g.I.Inputs.current c.args.inputs.now) (g.I.Inputs.taken c.args.inputs.now) in
    let after : Reads = reads (g.I.Inputs.files c.gather.new.inputs) (g.I.Inputs.faults c.gather.new.inputs) (g.I.Inputs.current c.gather.new.inputs) (g.I.Inputs.taken c.gather.new.inputs) in
    let gathered = subst (λ (q : Gathered). IsGathered c.args.names.now before after q) c.in-Refused.is c.in_ok-files.ensures in
    let stopped : Stopped (inputs_of command) before after c.in-Refused.answer = subst (λ (names : List (List ℕ)). Stopped names before after c.in-Refused.answer) c.requires.names gathered in
    refused (inputs_of command) (OfCommand command) before after c.in-Refused.answer (too_long command c.in-Refused.answer) stopped

pub returns-in-Files-clause-no_usage : goal.returns-in-Files-clause-no_usage
returns-in-Files-clause-no_usage g c = IfOk-weaker c.of_bytes.result _ _ (λ a status. status.no_usage) c.of_bytes.ensures.status

pub returns-in-Refused-clause-no_usage : goal.returns-in-Refused-clause-no_usage
returns-in-Refused-clause-no_usage g c =
    let before : Reads = reads (g.I.Inputs.files c.args.inputs.now) (g.I.Inputs.faults c.args.inputs.now) (g.I.Inputs.current c.args.inputs.now) (g.I.Inputs.taken c.args.inputs.now) in
    let after : Reads = reads (g.I.Inputs.files c.gather.new.inputs) (g.I.Inputs.faults c.gather.new.inputs) (g.I.Inputs.current c.gather.new.inputs) (g.I.Inputs.taken c.gather.new.inputs) in
    stopped_is_no_usage c.args.names.now before after c.in-Refused.answer (subst (λ (q : Gathered). IsGathered c.args.names.now before after q) c.in-Refused.is c.in_ok-files.ensures)
