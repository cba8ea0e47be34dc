use Rattle.std.proofs.Common.{◌≡◌, ◌+◌, [], ◌∷◌, get_or, ap, ◌∙◌, arith}
use mathlib.Core.Option.{some}
use lib.ListN.{get_elem?}
use Rattle.crossbeam_deque.proofs.Lists.{at_index}
use Rattle.res_base.specs.Lists.{total}
use Rattle.res_base.proofs.ListLemmas.{total_set, total_append}
use Rattle.path_deque.specs.declared.deque.Thief.{Thief}
use Rattle.path_deque.specs.declared.deque.Tally.{Tally}
use Rattle.path_deque.specs.Ends.{thief_tally, thief_deque}
use Rattle.steal_worker.specs.Jobs.{IsThief}
use Rattle.steal_worker.proofs.EndLemmas.{each_put, each_at, map_put}
use Rattle.steal_worker.proofs.ends.steal_any.Goals as goal

pub returns-in-Some-clause-same : goal.returns-in-Some-clause-same
returns-in-Some-clause-same c =
    let old = get_or c.loop-k.thieves c.loop-k.k c.index-thieves-k.result in
    let at : get_elem? c.loop-k.thieves c.loop-k.k ≡ some old = at_index c.loop-k.thieves c.loop-k.k c.index-thieves-k.result (omega arith) c.index-thieves-k.is ∙ ap some c.index-thieves-k.is in
    map_put thief_deque c.loop-k.thieves c.loop-k.k old c.steal.new.self at c.in-Some.ensures.same ∙ c.loop-k.invariant.1

pub returns-in-Some-clause-got : goal.returns-in-Some-clause-got
returns-in-Some-clause-got c h =
    let old = get_or c.loop-k.thieves c.loop-k.k c.index-thieves-k.result in
    let at : get_elem? c.loop-k.thieves c.loop-k.k ≡ some old = at_index c.loop-k.thieves c.loop-k.k c.index-thieves-k.result (omega arith) c.index-thieves-k.is ∙ ap some c.index-thieves-k.is in
    let s = total_set (λ (r : Thief). total h (thief_tally r).got) c.loop-k.thieves c.loop-k.k old c.steal.new.self at in
    let e : total h (thief_tally c.steal.new.self).got ≡ total h (thief_tally old).got + (h c.in-Some.path + 0) = ap (λ (t : Tally). total h t.got) c.in-Some.ensures.got ∙ total_append h (thief_tally old).got (c.in-Some.path ∷ []) in
    let i = c.loop-k.invariant.2 h in omega arith

pub loop-k-preserved : goal.loop-k-preserved
loop-k-preserved c =
    let old = get_or c.loop-k.thieves c.loop-k.k c.index-thieves-k.result in
    let new = c.steal.new.self in
    let at : get_elem? c.loop-k.thieves c.loop-k.k ≡ some old = at_index c.loop-k.thieves c.loop-k.k c.index-thieves-k.result (omega arith) c.index-thieves-k.is ∙ ap some c.index-thieves-k.is in
    let was : IsThief old = each_at IsThief c.loop-k.thieves c.loop-k.k old at c.loop-k.invariant.0 in
    let same : thief_tally new ≡ thief_tally old = c.in_default.ensures.got in (
      each_put IsThief c.loop-k.thieves c.loop-k.k new (ap (λ (t : Tally). t.part) same ∙ was.0, ap (λ (t : Tally). t.put) same ∙ was.1) c.loop-k.invariant.0,
      map_put thief_deque c.loop-k.thieves c.loop-k.k old new at c.in_default.ensures.same ∙ c.loop-k.invariant.1,
      λ h.
          let s = total_set (λ (r : Thief). total h (thief_tally r).got) c.loop-k.thieves c.loop-k.k old new at in
          let e : total h (thief_tally new).got ≡ total h (thief_tally old).got = ap (λ (t : Tally). total h t.got) same in
          let i = c.loop-k.invariant.2 h in omega arith,
    )
