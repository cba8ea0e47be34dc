use Rattle.std.proofs.Common.{◌≡◌, ◌+◌, [], ◌∷◌, ap, ◌∙◌, arith}
use Rattle.res_base.specs.Lists.{total}
use Rattle.res_base.proofs.ListLemmas.{total_append}
use Rattle.path_deque.specs.declared.deque.Tally.{Tally}
use Rattle.path_deque.specs.Ends.{owner_tally}
use Rattle.steal_pool.proofs.back.drain.Goals as goal

pub loop-preserved : goal.loop-preserved
loop-preserved g c =
    let i = c.loop.invariant in
    let e = c.in-Some-pop.ensures.got in
    let path = c.in-Some-pop.path in
    record {
      owner = (ap (λ (t : Tally). t.part) e ∙ i.owner.0, ap (λ (t : Tally). t.out) e ∙ i.owner.1);
      put = ap (λ (t : Tally). t.put) e ∙ i.put;
      got = λ h.
          let a : total h (owner_tally c.pop.new.self).got ≡ total h (owner_tally c.loop.owner).got + (h path + 0) = ap (λ (t : Tally). total h t.got) e ∙ total_append h (owner_tally c.loop.owner).got (path ∷ []) in
          let b : total h c.push_reserved.new.self.items ≡ total h c.reserve.new.self.items + (h path + 0) = ap (total h) c.push_reserved.ensures.items ∙ total_append h c.reserve.new.self.items (path ∷ []) in
          let d : total h c.reserve.new.self.items ≡ total h c.loop.left.items = ap (total h) c.reserve.ensures.items in
          let k = i.got h in omega (arith, a, b, d, k);
    }
