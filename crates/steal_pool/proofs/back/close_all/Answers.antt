use Rattle.std.proofs.Common.{◌≡◌, ℕ, ◌+◌, ◌++◌, [], ◌∷◌, List, Vec, Global, length, take, drop, refl, sym, ap, ◌∙◌, subst, arith}
use Rattle.res_base.specs.Lists.{Each, total}
use Rattle.res_base.proofs.ListLemmas.{each_prefix, total_snoc}
use Rattle.path_deque.specs.declared.deque.Owner.{Owner}
use Rattle.path_deque.specs.declared.deque.Thief.{Thief}
use Rattle.path_deque.specs.Ends.{owner_tally, owner_deque, thief_deque}
use Rattle.steal_worker.specs.Jobs.{stolen}
use Rattle.steal_pool.specs.Crews.{Deques, owner_deques, IsOwner, IsRow}
use Rattle.steal_pool.specs.Joined.{put_by, got_by, stolen_by}
use Rattle.steal_pool.proofs.RowLemmas.{map_snoc, whole, no_ends, no_items}
use Rattle.steal_pool.proofs.back.close_all.Goals as goal

none_stolen : (h : ℕ → ℕ) (rows : List (Vec Thief Global)) → Each (IsRow []) rows → stolen_by h rows ≡ 0
none_stolen h [] e = refl
none_stolen h (r ∷ rs) e = let a : stolen h r.items ≡ 0 = ap (stolen h) (no_ends thief_deque r.items e.0.1) in omega (arith, a, none_stolen h rs e.1)

pub column-requires : goal.column-requires
column-requires g c =
    let i = c.loop-owner.invariant in
    let rest = c.pop.new.self.items in
    let owner = c.in-Some.owner in
    let ids : owner_deques c.loop-owner.owners.items ≡ owner_deques rest ++ owner_deque owner ∷ [] = ap owner_deques c.in-Some.ensures.items ∙ map_snoc owner_deque rest owner in
    let e : Each (IsRow (owner_deques rest ++ owner_deque owner ∷ [])) c.loop-owner.rows.items = subst (λ (d : Deques). Each (IsRow d) c.loop-owner.rows.items) ids i.rows in
    record { rows = rw (c.as_slice.ensures.value, c.as_mut_slice.ensures.value) e }

pub close_deque-requires-clause-owner : goal.close_deque-requires-clause-owner
close_deque-requires-clause-owner g c =
    let i = c.loop-owner.invariant in
    let mine = (each_prefix (IsOwner (length c.args.rows.items)) c.pop.new.self.items c.in-Some.owner (subst (Each (IsOwner (length c.args.rows.items))) c.in-Some.ensures.items i.owners)).1 in
    let n = c.in_ok-thieves.ensures.ends.0 in
    (mine.0, mine.1 ∙ (sym i.count ∙ (sym (ap (length {A = Vec Thief Global}) c.as_mut_slice.ensures.value) ∙ sym n)))

pub loop-owner-preserved : goal.loop-owner-preserved
loop-owner-preserved g c =
    let i = c.loop-owner.invariant in
    let rest = c.pop.new.self.items in
    let owner = c.in-Some.owner in
    let rows = c.loop-owner.rows.items in
    let new = c.column.new.rows in
    let is : c.loop-owner.owners.items ≡ rest ++ owner ∷ [] = c.in-Some.ensures.items in
    let v : c.as_mut_slice.result.now ≡ rows = c.as_mut_slice.ensures.value in
    let same : length new ≡ length rows = c.in_ok-thieves.ensures.rows.0 ∙ ap (length {A = Vec Thief Global}) v in
    let back = whole new rows c.loop-owner.rows.len (omega arith) same in
    record {
      owners = (each_prefix (IsOwner (length c.args.rows.items)) rest owner (subst (Each (IsOwner (length c.args.rows.items))) is i.owners)).0;
      rows = rw back (rw c.as_slice.ensures.value at c.in_ok-thieves.ensures.rows.1);
      count = ap (length {A = Vec Thief Global}) back ∙ (same ∙ i.count);
      even = λ h.
          let a : put_by h c.loop-owner.owners.items ≡ put_by h rest + total h (owner_tally owner).put = ap (put_by h) is ∙ total_snoc (λ (o : Owner). total h (owner_tally o).put) rest owner in
          let b : got_by h c.loop-owner.owners.items ≡ got_by h rest + total h (owner_tally owner).got = ap (got_by h) is ∙ total_snoc (λ (o : Owner). total h (owner_tally o).got) rest owner in
          let w : stolen_by h (take c.loop-owner.rows.len (new ++ drop (length new) rows)) ≡ stolen_by h new = ap (stolen_by h) back in
          let u : stolen_by h rows ≡ stolen_by h new + stolen h c.in_ok-thieves.thieves.items = ap (stolen_by h) (sym v) ∙ c.in_ok-thieves.ensures.got h in
          let d = c.in_ok-close_deque.ensures h in
          let e = i.even h in omega (arith, a, b, w, u, d, e);
    }

pub returns : goal.returns
returns g c h =
    let i = c.loop-owner.invariant in
    let none : c.loop-owner.owners.items ≡ [] = no_items c.loop-owner.owners.items (let k = c.in_default.ensures.cases in omega arith) in
    let rows : stolen_by h c.loop-owner.rows.items ≡ 0 = none_stolen h c.loop-owner.rows.items (subst (λ (os : List Owner). Each (IsRow (owner_deques os)) c.loop-owner.rows.items) none i.rows) in
    let a : put_by h c.loop-owner.owners.items ≡ 0 = ap (put_by h) none in
    let b : got_by h c.loop-owner.owners.items ≡ 0 = ap (got_by h) none in
    let e = i.even h in omega (arith, rows, a, b, e)
