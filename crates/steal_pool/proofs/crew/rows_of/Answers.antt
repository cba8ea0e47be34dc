use Rattle.std.proofs.Common.{◌≡◌, ◌+◌, [], ◌∷◌, Vec, Global, length, sym, ap, ◌∙◌, subst, arith, length-append}
use Rattle.res_base.specs.Lists.{Each}
use Rattle.res_base.proofs.ListLemmas.{each_push}
use Rattle.path_deque.specs.declared.deque.Owner.{Owner}
use Rattle.path_deque.specs.declared.deque.Thief.{Thief}
use Rattle.steal_pool.specs.Crews.{Deques, owner_deques, IsFresh, IsFreshRow}
use Rattle.steal_pool.proofs.RowLemmas.{whole}
use Rattle.steal_pool.proofs.crew.rows_of.Goals as goal

pub loop-preserved : goal.loop-preserved
loop-preserved c =
    let i = c.loop.invariant in
    let old = c.loop.owners.items in
    let new = c.thieves_of.new.owners in
    let v : c.as_mut_slice.result.now ≡ old = c.as_mut_slice.ensures.value in
    let same : length new ≡ length old = c.in_ok-row.ensures.count ∙ ap (length {A = Owner}) v in
    let back = whole new old c.loop.owners.len (omega arith) same in
    let pushed = c.in_ok-push.ensures.items in
    let ids : owner_deques new ≡ owner_deques old = c.in_ok-row.ensures.same ∙ ap owner_deques v in
    record {
      count = (let a = ap (length {A = Vec Thief Global}) pushed in let b = i.count in omega (arith, a, b, length-append c.loop.rows.items (c.in_ok-row.row ∷ [])));
      owners = ap (length {A = Owner}) back ∙ (same ∙ i.owners);
      fresh = subst (Each (IsFresh (c.loop.counter + 1))) (sym back) (c.in_ok-row.ensures.fresh c.loop.counter (subst (Each (IsFresh c.loop.counter)) (sym v) i.fresh));
      rows = subst (λ (d : Deques). Each (IsFreshRow d) c.push.new.self.items) (sym (ap owner_deques back ∙ ids))
          (subst (Each (IsFreshRow (owner_deques old))) (sym pushed) (each_push (IsFreshRow (owner_deques old)) c.loop.rows.items c.in_ok-row.row i.rows (subst (λ (d : Deques). IsFreshRow d c.in_ok-row.row) (ap owner_deques v) c.in_ok-row.ensures.row)));
    }
