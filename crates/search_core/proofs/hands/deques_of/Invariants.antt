use Rattle.std.proofs.Common.{◌≡◌, ◌∷◌, [], replicate}
use Rattle.search_core.proofs.hands.deques_of.Given as goal

abbrev pub invariant-loop : goal.invariant-loop
invariant-loop l = l.deques.items ≡ (1 ∷ []) ∷ replicate l.counter []
