use Rattle.std.proofs.Common.{◌≡◌, ℕ, ◌+◌, ◌<◌, ◌++◌, [], ◌∷◌, Vec, Global, take, drop, length, get_or, set, sym, ap, ◌∙◌, subst, arith, add-one, length-append}
use mathlib.Core.Option.{some}
use lib.ListN.{get_elem?}
use Rattle.crossbeam_deque.proofs.Lists.{at_index}
use Rattle.res_base.specs.Lists.{Each, total}
use Rattle.res_base.proofs.ListLemmas.{each_push, each_prefix, total_set, total_snoc}
use Rattle.path_deque.specs.declared.deque.Thief.{Thief}
use Rattle.path_deque.specs.Ends.{owner_deque, thief_tally, thief_deque}
use Rattle.steal_worker.specs.Jobs.{stolen, IsThief, thief_deques}
use Rattle.steal_pool.specs.Crews.{owner_deques, IsRow}
use Rattle.steal_pool.proofs.RowLemmas.{each_take_set, each_drop_set, each_drop_at, snoc_inj, map_snoc}
use Rattle.steal_pool.proofs.back.column.Goals as goal

pub loop-k-preserved : goal.loop-k-preserved
loop-k-preserved c =
    let i = c.loop-k.invariant in
    let rows = c.loop-k.rows in
    let k = c.loop-k.k in
    let new = c.pop.new.self in
    let t = c.in-Some.thief in
    let old = get_or rows k c.index-rows-k.result in
    let lt : k < length rows = omega arith in
    let at : get_elem? rows k ≡ some old = at_index rows k c.index-rows-k.result lt c.index-rows-k.is ∙ ap some c.index-rows-k.is in
    let d = owner_deque c.args.owner.now in
    let ids = owner_deques c.args.owners.now in
    let Full : Vec Thief Global → Type 0 = IsRow (ids ++ d ∷ []) in
    let Cut : Vec Thief Global → Type 0 = IsRow ids in
    let was : Full old = each_drop_at Full rows k old at i.ahead in
    let is : old.items ≡ new.items ++ t ∷ [] = c.in-Some.ensures.items in
    let thieves = each_prefix IsThief new.items t (subst (Each IsThief) is was.0) in
    let both = snoc_inj (thief_deques new.items) ids (thief_deque t) d (sym (map_snoc thief_deque new.items t) ∙ (sym (ap thief_deques is) ∙ was.1)) in
    let pushed = c.in_ok-push.ensures.items in
    let next = add-one k in
    record {
      done = subst (λ (n : ℕ). Each Cut (take n (set rows k new))) (sym next) (each_take_set Cut rows k new (thieves.0, both.0) lt i.done);
      ahead = subst (λ (n : ℕ). Each Full (drop n (set rows k new))) (sym next) (each_drop_set Full rows k new i.ahead);
      count = (let a = ap (length {A = Thief}) pushed in let b = i.count in omega (arith, a, b, length-append c.loop-k.all.items (t ∷ [])));
      ends = subst (Each IsThief) (sym pushed) (each_push IsThief c.loop-k.all.items t i.ends thieves.1);
      of = subst (Each (λ (x : Thief). thief_deque x ≡ d)) (sym pushed) (each_push (λ (x : Thief). thief_deque x ≡ d) c.loop-k.all.items t i.of both.1);
      got = λ h.
          let a = total_set (λ (x : Vec Thief Global). stolen h x.items) rows k old new at in
          let b : stolen h old.items ≡ stolen h new.items + total h (thief_tally t).got = ap (stolen h) is ∙ total_snoc (λ (x : Thief). total h (thief_tally x).got) new.items t in
          let e : stolen h c.push.new.self.items ≡ stolen h c.loop-k.all.items + total h (thief_tally t).got = ap (stolen h) pushed ∙ total_snoc (λ (x : Thief). total h (thief_tally x).got) c.loop-k.all.items t in
          let f = i.got h in omega (arith, a, b, e, f);
    }
