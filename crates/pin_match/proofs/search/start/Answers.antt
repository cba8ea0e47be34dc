use Rattle.std.proofs.Common.{◌∙◌, ◌+◌, sym, subst, arith}
use Rattle.pin_match.specs.declared.walk.Walk.{Walk}
use Rattle.pin_match.specs.Walks.{Started}
use Rattle.pin_match.specs.Pairs.{given_in}
use Rattle.pin_match.proofs.SearchLemmas.{started_out, start_room, none_of}
use Rattle.pin_match.proofs.search.start.Goals as goal

pub loop-variable-init : goal.loop-variable-init
loop-variable-init c = c.new.ensures c.args.variables (given_in c.args.matching.now) c.requires

pub reach-requires-clause-room : goal.reach-requires-clause-room
reach-requires-clause-room c =
    let h = start_room c.args.variables (given_in c.args.matching.now) c.loop-variable.walk c.loop-variable.variable c.loop-variable.invariant c.loop-variable-test.true (none_of _ (sym c.is_some.ensures ∙ c.if-is_some.false)) in
    omega (arith, h, c.requires)

pub loop-variable-preserved : goal.loop-variable-preserved
loop-variable-preserved c =
    subst (λ (x : Walk). Started c.args.variables (given_in c.args.matching.now) x (c.loop-variable.variable + 1)) (sym c.reach.ensures)
    (started_out c.args.variables (given_in c.args.matching.now) c.loop-variable.walk c.loop-variable.variable c.loop-variable.invariant c.loop-variable-test.true (none_of _ (sym c.is_some.ensures ∙ c.if-is_some.false)))
