use Rattle.std.proofs.Common.{◌≡◌, refl, sym, ap, ◌∙◌, subst}
use Rattle.best_word.specs.Handles.{best_view}
use Rattle.search_api.specs.Accounts.{Accounted}
use Rattle.steal_worker.specs.Walks.{leaf_ranks}
use Rattle.steal_pool.specs.Known.{Knows}
use Rattle.steal_pool.proofs.WholeLemmas.{ends, none_kept}
use Rattle.steal_pool.proofs.workers.outcome_of.Goals as goal

pub returns-clause-whole : goal.returns-clause-whole
returns-clause-whole g c = (
  refl,
  λ m n w.
      let v = best_view c.args.seat.now in
      let u = best_view c.see-best.new.seat in
      let closed = c.args.closed in
      let ranks : leaf_ranks c.as_slice.result.now ≡ v.kept = ap leaf_ranks c.as_slice.ensures ∙ sym w.joined.boxes.ranks in
      let kept : v.kept ≡ c.in_ok-kept.kept = sym (c.in_ok-kept.ensures (λ e. ranks ∙ none_kept v u c.see-best.result c.see-best.ensures.saw e) ∙ ranks) in
      let e = ends m n w.came w.went v u closed w.joined w.all w.nothing w.first w.none_out c.see-best.result c.see-best.ensures.saw in
      (subst (λ k. Accounted m c.see-best.result k closed) kept e.0, subst (λ k. Knows k closed u) kept e.1),
)
