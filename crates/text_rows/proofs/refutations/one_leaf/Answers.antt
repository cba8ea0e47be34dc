use Rattle.std.proofs.Common.{ℕ, List, [], ◌∷◌, ◌++◌, ap, ◌∙◌}
use Rattle.search_api.specs.declared.outcome.Closed.{Closed}
use Rattle.text_rows.proofs.LeafLemmas.{leaf, one_leaf}
use Rattle.text_rows.proofs.refutations.one_leaf.Goals as goal

pub returns : goal.returns
returns c =
    one_leaf c.push.new.self c.push-2.new.self
    (c.in_ok-push.ensures.ok ∙ ap (λ (xs : List ℕ). xs ++ 0 ∷ []) (c.of-kept.ensures ∙ c.new.ensures.items))
    (c.in_ok-push-2.ensures.ok ∙ ap (λ (xs : List Closed). xs ++ leaf ∷ []) (c.of-closed.ensures ∙ c.new-2.ensures.items))
