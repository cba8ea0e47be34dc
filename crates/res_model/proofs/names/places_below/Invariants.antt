use Rattle.res_model.specs.NameOrder.{AreFirst}
use Rattle.res_model.proofs.names.places_below.Given as goal

abbrev pub invariant-loop-place : goal.invariant-loop-place
invariant-loop-place l = AreFirst l.places.items l.place
