use Rattle.std.proofs.Common.{◌≡◌, ◌+◌, [], ◌∷◌, ◌++◌, take, get_or, sym, ap, ◌∙◌}
use Rattle.std.proofs.lemmas.List.{take_more}
use Rattle.search_api.specs.declared.verdict.Class.TheVariants as class
use Rattle.search_api.specs.declared.verdict.Reason.TheVariants as reason
use Rattle.search_api.specs.declared.outcome.Cause.TheVariants as cause
use Rattle.search_api.specs.declared.outcome.Closed.{Closed}
use Rattle.steal_worker.specs.Walks.{leaf_rank, leaf_ranks}
use Rattle.steal_worker.proofs.WalkActs.{leaf_ranks_push}
use Rattle.steal_pool.proofs.workers.kept_of.Goals as goal

-- what is read past the end of a list of closed paths
abbrev nothing : Closed
nothing = record { worker = 0; path = 0; cause = cause.Bad (reason.Hall class.Pins (record { words = [] })) }

pub loop-entry-preserved : goal.loop-entry-preserved
loop-entry-preserved c =
    let xs = c.args.closed.now in
    let i = c.loop-entry.entry-index in
    let e = get_or xs i nothing in
    let more : take (i + 1) xs ≡ take i xs ++ e ∷ [] = take_more xs i nothing c.loop-entry-test.true in
    c.in_ok-keep.ensures ∙ (ap (λ l. l ++ leaf_rank e.cause) c.loop-entry.invariant ∙ (sym (leaf_ranks_push (take i xs) e) ∙ ap leaf_ranks (sym more)))
