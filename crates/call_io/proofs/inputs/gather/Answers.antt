use Rattle.std.proofs.Common.{◌∙◌, ◌+◌, List, ℕ, take, drop, inr, subst, arith}
use Rattle.call_io.specs.Gathered.{IsRead, IsTaken, Unread}
use Rattle.call_io.specs.Inputs.{Files, Reads, reads}
use Rattle.call_io.specs.declared.inputs.Taken.{Taken}
use Rattle.call_io.specs.declared.inputs.Taken.TheVariants.{Whole}
use Rattle.call_io.proofs.Steps.{cut_at, read_more, unread_from}
use Rattle.call_io.proofs.inputs.gather.Goals as goal

pub returns-in-Refused : goal.returns-in-Refused
returns-in-Refused g c =
    let names = c.args.names.now in
    let k = c.loop-name.name-index in
    let name = c.name-item.result in
    let before : Reads = reads (g.I.Inputs.files c.args.inputs.now) (g.I.Inputs.faults c.args.inputs.now) (g.I.Inputs.current c.args.inputs.now) (g.I.Inputs.taken c.args.inputs.now) in
    let mid : Reads = reads (g.I.Inputs.files c.loop-name.inputs) (g.I.Inputs.faults c.loop-name.inputs) (g.I.Inputs.current c.loop-name.inputs) (g.I.Inputs.taken c.loop-name.inputs) in
    let after : Reads = reads (g.I.Inputs.files c.take_input.new.inputs) (g.I.Inputs.faults c.take_input.new.inputs) (g.I.Inputs.current c.take_input.new.inputs) (g.I.Inputs.taken c.take_input.new.inputs) in
    let taken : IsTaken name mid after c.in_ok-bytes.field-0 = subst (λ (n : List ℕ). IsTaken n mid after c.in_ok-bytes.field-0) c.as_str.ensures c.in_ok-bytes.ensures.taken in
    let unread : Unread mid after name c.in-Refused.answer = subst (λ (t : Taken). IsTaken name mid after t) c.in-Refused.is taken in
    record {
      earlier = take k names;
      name = name;
      later = drop (k + 1) names;
      read = c.loop-name.files.items;
      cut = cut_at names k name c.loop-name-test.true c.name-item.is;
      all_read = c.loop-name.invariant.read;
      unread = unread_from before mid after name c.in-Refused.answer c.loop-name.invariant.files c.loop-name.invariant.later unread;
    }

pub loop-name-preserved : goal.loop-name-preserved
loop-name-preserved g c =
    let names = c.args.names.now in
    let k = c.loop-name.name-index in
    let name = c.name-item.result in
    let files : Files = g.I.Inputs.files c.args.inputs.now in
    let mid : Reads = reads (g.I.Inputs.files c.loop-name.inputs) (g.I.Inputs.faults c.loop-name.inputs) (g.I.Inputs.current c.loop-name.inputs) (g.I.Inputs.taken c.loop-name.inputs) in
    let after : Reads = reads (g.I.Inputs.files c.take_input.new.inputs) (g.I.Inputs.faults c.take_input.new.inputs) (g.I.Inputs.current c.take_input.new.inputs) (g.I.Inputs.taken c.take_input.new.inputs) in
    let taken : IsTaken name mid after c.in_ok-bytes.field-0 = subst (λ (n : List ℕ). IsTaken n mid after c.in_ok-bytes.field-0) c.as_str.ensures c.in_ok-bytes.ensures.taken in
    let whole : IsTaken name mid after (Whole c.in-Whole.bytes) = subst (λ (t : Taken). IsTaken name mid after t) c.in-Whole.is taken in
    record {
      files = c.in_ok-bytes.ensures.files ∙ c.loop-name.invariant.files;
      later = λ n. let a = c.loop-name.invariant.later n in let b = c.in_ok-bytes.ensures.later n in omega (arith, a, b);
      read = read_more files names k name c.in-Whole.bytes c.loop-name.files.items c.push.new.self.items c.loop-name-test.true c.name-item.is c.loop-name.invariant.read (subst (λ (f : Files). IsRead f name c.in-Whole.bytes) c.loop-name.invariant.files whole.0) c.in_ok-push-in-Whole.ensures.items;
      clear = inr whole.1;
    }
