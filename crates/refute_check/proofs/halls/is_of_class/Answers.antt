use Rattle.std.proofs.Common.{◌∙◌, ◌-◌, inl, inr, sym, ap, arith}
use Rattle.box_rules.specs.Contest.{competes}
use Rattle.refute_check.proofs.CountLemmas.{no_signal, of_class_at}
use Rattle.refute_check.proofs.halls.is_of_class.Goals as goal
use Rattle.refute_check.proofs.halls.is_of_class.Goals.{then-v-first-via-then-v-first, then-v-first-via-else-v-first+then-v-first-2}

pub returns-then-v-first : goal.returns-then-v-first
returns-then-v-first c = sym (no_signal c.args.class c.args.first c.args.uses.now c.args.v (elim c.then-v-first.branch [
  | then-v-first-via-then-v-first w ↦ inl (omega (arith, w.if-v-first.true))
  | then-v-first-via-else-v-first+then-v-first-2 w ↦ inr (omega (arith, w.if-v-first.false, w.if-v-first-2.true))
]))

pub returns : goal.returns
returns c =
    c.competes.ensures ∙ ap (competes c.args.class) c.uses_of.ensures
    ∙ sym (of_class_at c.args.class c.args.first c.args.uses.now c.args.v (c.args.v - c.args.first) (omega (arith, c.if-v-first.false)) (omega (arith, c.if-v-first-2.false)))
