use Rattle.std.proofs.Common.{ℕ, List, ◌++◌, sym, ap, ◌∙◌, append-nil}
use Rattle.steal_worker.specs.Walks.{leaf_rank}
use Rattle.steal_pool.proofs.workers.keep.Goals as goal

pub returns-in-Bad : goal.returns-in-Bad
returns-in-Bad c = sym (append-nil c.args.kept.now) ∙ ap (λ (l : List ℕ). c.args.kept.now ++ l) (sym (ap leaf_rank c.in-Bad.is))

pub returns-in-Cut : goal.returns-in-Cut
returns-in-Cut c = sym (append-nil c.args.kept.now) ∙ ap (λ (l : List ℕ). c.args.kept.now ++ l) (sym (ap leaf_rank c.in-Cut.is))
