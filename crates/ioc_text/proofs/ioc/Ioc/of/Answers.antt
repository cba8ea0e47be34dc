use Rattle.std.proofs.Common.{◌∙◌, ◌<◌, ◌≤◌, List, Ok, ap, length, arith, subst, sym}
use Rattle.ioc_text.specs.declared.line.Line.{Line}
use Rattle.ioc_text.specs.Index.{IsFirstRepeat}
use Rattle.ioc_text.proofs.Once.{one_told, none_told}
use Rattle.ioc_text.proofs.OutLemmas.{all_of}
use Rattle.ioc_text.proofs.ioc.Ioc.of.Goals as goal

pub returns-then-first-len : goal.returns-then-first-len
returns-then-first-len c =
    let first : IsFirstRepeat c.args.lines.items c.first_repeat-first.result = subst (λ (ls : List Line). IsFirstRepeat ls c.first_repeat-first.result) c.as_slice-2.ensures.value c.first_repeat-first.ensures in
    let within : c.first_repeat-first.result < length c.args.lines.items = omega arith in
    one_told c.args.lines.items c.first_repeat-first.result c.index.result.now within c.index.ensures first

pub returns : goal.returns
returns c =
    let first : IsFirstRepeat c.args.lines.items c.first_repeat-first.result = subst (λ (ls : List Line). IsFirstRepeat ls c.first_repeat-first.result) c.as_slice-2.ensures.value c.first_repeat-first.ensures in
    let past : length c.args.lines.items ≤ c.first_repeat-first.result = omega arith in
    none_told c.args.lines.items c.first_repeat-first.result past first
    ∙ ap Ok (sym (all_of c.new-outs.result.items c.args.lines.items c.in_ok-read.read.value.lines.items c.new-outs.ensures.items (ap (λ r. r.lines.items) c.in_ok-read.ensures.ok)))
