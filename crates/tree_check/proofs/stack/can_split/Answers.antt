use Rattle.std.proofs.Common.{◌≡◌, length, get_or, leb, true, false, sym, ap, ◌∙◌, refl, arith}
use Rattle.std.proofs.lemmas.Bool.Decides.{nat_tests}
use Rattle.tree_check.proofs.StackLemmas.{can_at, can_past}
use Rattle.tree_check.proofs.stack.can_split.Goals as goal

pub returns-then-v-vars : goal.returns-then-v-vars
returns-then-v-vars c = sym (can_past (length c.args.s.now) c.args.b.now.lo c.args.b.now.hi c.args.variable c.args.after (omega (arith, ap length c.vars.ensures.vars)))

pub returns-then-b-v : goal.returns-then-b-v
returns-then-b-v c =
    let low : leb (get_or c.args.b.now.lo c.args.variable 0) c.args.after ≡ true = grind (arith, nat_tests, c.if-b-v.true) in
    sym (can_at (length c.args.s.now) c.args.b.now.lo c.args.b.now.hi c.args.variable c.args.after (omega arith) (omega arith) (omega (arith, ap length c.vars.ensures.vars)) ∙ rw low refl)

pub returns-else-b-v : goal.returns-else-b-v
returns-else-b-v c =
    let low : leb (get_or c.args.b.now.lo c.args.variable 0) c.args.after ≡ false = grind (arith, nat_tests, c.if-b-v.false) in
    sym (can_at (length c.args.s.now) c.args.b.now.lo c.args.b.now.hi c.args.variable c.args.after (omega arith) (omega arith) (omega (arith, ap length c.vars.ensures.vars)) ∙ rw low refl)
