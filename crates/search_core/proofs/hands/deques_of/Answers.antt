use Rattle.std.proofs.Common.{List, ℕ, ◌∷◌, ◌++◌, [], ap, ◌∙◌}
use Rattle.std.proofs.lemmas.List.{replicate_more}
use Rattle.search_core.proofs.hands.deques_of.Goals as goal

pub loop-preserved : goal.loop-preserved
loop-preserved c =
    c.in_ok-push-2.ensures.items ∙ ap (λ (d : List ℕ). c.loop.deques.items ++ d ∷ []) (c.of-in-loop.ensures ∙ c.new.ensures.items) ∙ ap (λ (ds : List (List ℕ)). ds ++ [] ∷ []) c.loop.invariant
    ∙ ap (λ (ds : List (List ℕ)). (1 ∷ []) ∷ ds) (replicate_more c.loop.counter [])
