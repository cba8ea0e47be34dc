use Rattle.std.proofs.Common.{length, sym, subst, ◌∙◌}
use Rattle.pin_match.specs.declared.matching.Match.{Match}
use Rattle.pin_match.specs.Sets.{fits_in}
use Rattle.pin_match.specs.Pairs.{IsMatch}
use Rattle.pin_match.proofs.PairLemmas.{gave_match}
use Rattle.pin_match.proofs.matching.take_free.Goals as goal
use Rattle.pin_match.proofs.matching.take_free.Goals.{in-Some, in_default}

pub loop-variable-preserved : goal.loop-variable-preserved
loop-variable-preserved c = elim c.match-free_fit.branch [
  | in-Some w ↦
      subst (λ (x : Match). IsMatch (length c.args.sets.now) c.args.resources (fits_in c.args.sets.now) x) (sym (w.matching-is ∙ w.give.ensures.gave))
      (gave_match (length c.args.sets.now) c.args.resources (fits_in c.args.sets.now) c.loop-variable.matching c.loop-variable.invariant c.loop-variable.variable w.in-Some.resource w.in-Some.ensures)
  | in_default w ↦ subst (λ (x : Match). IsMatch (length c.args.sets.now) c.args.resources (fits_in c.args.sets.now) x) (sym w.matching-is) c.loop-variable.invariant
]
