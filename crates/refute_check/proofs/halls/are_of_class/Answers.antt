use Rattle.std.proofs.Common.{◌≡◌, ◌∙◌, false, sym, arith}
use Rattle.refute_check.specs.Counting.{is_of_class}
use Rattle.refute_check.proofs.CountLemmas.{no_outsider, outsider}
use Rattle.refute_check.proofs.halls.are_of_class.Goals as goal

pub returns-then-not-is_of_class : goal.returns-then-not-is_of_class
returns-then-not-is_of_class c =
    let other : is_of_class c.args.class c.args.first c.args.uses.now c.loop-v.v ≡ false = sym c.is_of_class.ensures ∙ c.if-not-is_of_class.true in
    sym (outsider c.args.class c.args.first c.args.uses.now c.args.vars.now c.loop-v.v (omega arith) (sym c.has.ensures ∙ c.if-has.true) other)

pub returns : goal.returns
returns c = sym (no_outsider c.args.class c.args.first c.args.uses.now c.args.vars.now c.loop-v.v (omega arith) c.loop-v.invariant)
