use Rattle.std.proofs.Common.{◌∙◌, ◌++◌, ℕ, List, ap, subst, arith}
use Rattle.std.specs.Prelude.{string_bytes}
use Rattle.explain.specs.declared.kinds.Thing.{Thing}
use Rattle.explain.proofs.HelpLemmas.{Says, all, none_yet, one_more}
use Rattle.explain.proofs.helps.helps.Goals as goal

pub loop-thing-init : goal.loop-thing-init
loop-thing-init c = none_yet c.args.p.now.tables c.args.ioc.now c.args.opts.now c.args.p.now.signals c.as_slice-thing-items.result.now c.new-out.result.items c.new-out.ensures.items

pub loop-thing-preserved : goal.loop-thing-preserved
loop-thing-preserved c =
    one_more c.args.p.now.tables c.args.ioc.now c.args.opts.now c.args.p.now.signals c.as_slice-thing-items.result.now c.loop-thing.thing-index _ c.loop-thing.out.items
    (string_bytes c.in_ok-line.line) c.extend_from_slice.new.self.items (omega arith) c.in_ok-line.ensures
    (c.in_ok-extend_from_slice.ensures.items ∙ ap (λ (l : List ℕ). c.loop-thing.out.items ++ l) c.as_bytes.ensures.value) c.loop-thing.invariant

pub returns : goal.returns
returns c =
    subst (λ (things : List Thing). Says c.args.p.now.tables c.args.ioc.now c.args.opts.now c.args.p.now.signals things c.loop-thing.out.items) (c.as_slice-thing-items.ensures.value ∙ c.in_ok-things.ensures)
    (all c.args.p.now.tables c.args.ioc.now c.args.opts.now c.args.p.now.signals c.as_slice-thing-items.result.now c.loop-thing.thing-index c.loop-thing.out.items c.loop-thing-test.false c.loop-thing.invariant)
