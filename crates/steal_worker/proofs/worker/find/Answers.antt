use Rattle.std.proofs.Common.{◌≡◌, ◌+◌, [], ◌∷◌, ap, ◌∙◌, arith}
use Rattle.res_base.specs.Lists.{total}
use Rattle.res_base.proofs.ListLemmas.{total_append}
use Rattle.path_deque.specs.declared.deque.Tally.{Tally}
use Rattle.path_deque.specs.Ends.{owner_tally}
use Rattle.steal_worker.proofs.worker.find.Goals as goal

pub returns-in-Some-clause-got : goal.returns-in-Some-clause-got
returns-in-Some-clause-got c h =
    let e : total h (owner_tally c.pop.new.self).got ≡ total h (owner_tally c.args.owner.now).got + (h c.in-Some.path + 0) = ap (λ (t : Tally). total h t.got) c.in-Some.ensures.got ∙ total_append h (owner_tally c.args.owner.now).got (c.in-Some.path ∷ []) in omega arith
