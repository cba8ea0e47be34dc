use Rattle.std.proofs.Common.{◌≡◌, [], ◌∷◌, sym, ap, ◌∙◌}
use Rattle.path_deque.specs.Ends.{owner_tally}
use Rattle.path_deque.specs.Tallies.{put_more}
use Rattle.search_api.specs.declared.place.Place.{Place}
use Rattle.steal_worker.specs.Walks.{held_places}
use Rattle.steal_worker.proofs.ends.share.Goals as goal

pub returns-in-Ok-clause-moved : goal.returns-in-Ok-clause-moved
returns-in-Ok-clause-moved c =
    let f = c.in-Some.ensures in
    let d = c.drop_first.ensures in
    let e : f.0 ∷ f.1 ≡ d.0 ∷ held_places c.drop_first.new.self = sym f.2 ∙ d.1 in
    let same : f.0 ≡ d.0 = cc in
    (d.0 ∷ [], d.1, c.in-Ok.ensures.put ∙ (ap (λ t. put_more t (c.in-Some.path ∷ [])) c.is_empty.ensures.same.1 ∙ ap (λ x. put_more (owner_tally c.args.owner.now) (x ∷ [])) (sym f.3 ∙ ap (λ (q : Place). q.path) same)))
