use Rattle.std.proofs.Common.{◌++◌, [], ◌∷◌, ap, ◌∙◌}
use Rattle.best_word.specs.Handles.{best_view}
use Rattle.best_word.specs.Word.{together}
use Rattle.steal_pool.proofs.gather.take_in.Goals as goal

pub returns-clause-taken : goal.returns-clause-taken
returns-clause-taken g c =
    let e = c.in_ok-job.ensures in
    let walker = ap (λ r. r.0) c.parts-walker.ensures ∙ ap (λ job. job.walker) e.0 in
    let owner = ap (λ r. r.1) c.parts-walker.ensures ∙ ap (λ job. job.owner) e.0 in
    let thieves = ap (λ r. r.2) c.parts-walker.ensures ∙ ap (λ job. job.thieves) e.0 in
    let seat = ap (λ r. r.0) c.parts-theirs.ensures ∙ ap (λ w. w.seat) walker in
    let closed = ap (λ r. r.1) c.parts-theirs.ensures ∙ ap (λ w. w.closed) walker in
    record {
      ended = e.1;
      owners = c.in_ok-push.ensures.items ∙ ap (λ o. c.args.gathered.now.owners.items ++ o ∷ []) owner;
      rows = c.in_ok-push-2.ensures.items ∙ ap (λ t. c.args.gathered.now.rows.items ++ t ∷ []) thieves;
      closed = c.in_ok-put_all.ensures ∙ ap (λ l. c.args.gathered.now.closed ++ l) closed;
      joined = c.join.ensures.view ∙ ap (λ x. together (best_view c.args.seat.now) (best_view x)) seat;
    }
