use Rattle.std.proofs.Common.{◌≡◌, ℕ, suc, ◌+◌, ◌<◌, ◌++◌, [], ◌∷◌, take, drop, length, get_or, set, sym, ap, ◌∙◌, subst, arith, add-one}
use mathlib.Core.Option.{some, some-injective}
use lib.ListN.{get_elem?}
use Rattle.crossbeam_deque.proofs.Lists.{at_map}
use Rattle.res_base.specs.Lists.{Each}
use Rattle.res_base.proofs.ListLemmas.{each_push}
use Rattle.best_word.specs.declared.part.Part.TheVariants.{First}
use Rattle.path_deque.specs.declared.deque.Owner.{Owner}
use Rattle.path_deque.specs.declared.deque.Tally.{Tally}
use Rattle.path_deque.specs.Ends.{owner_tally, owner_deque, thief_deque}
use Rattle.path_deque.specs.Tallies.{one_more_out}
use Rattle.steal_worker.specs.Jobs.{thief_deques}
use Rattle.steal_worker.proofs.EndLemmas.{each_put, each_at, map_put}
use Rattle.steal_pool.specs.Crews.{owner_deques, IsFresh, IsFreshThief}
use Rattle.steal_pool.proofs.RowLemmas.{each_take_set, each_drop_set, each_drop_at, map_snoc, get_there, take_at, take_all}
use Rattle.steal_pool.proofs.crew.thieves_of.Goals as goal

pub loop-k-preserved : goal.loop-k-preserved
loop-k-preserved c =
    let i = c.loop-k.invariant in
    let owners = c.loop-k.owners in
    let k = c.loop-k.k in
    let init = c.args.owners.now in
    let new = c.thief.new.self in
    let t = c.in_ok-thief.thief in
    let old = get_or owners k c.index-owners-k.result in
    let was = get_or init k c.index-owners-k.result in
    let lt : k < length owners = omega arith in
    let at : get_elem? owners k ≡ some old = get_there owners k c.index-owners-k.result lt in
    let there : get_elem? init k ≡ some was = get_there init k c.index-owners-k.result (omega arith) in
    let made = c.in_ok-thief.ensures.made in
    let ids : owner_deque old ≡ owner_deque was = some-injective _ _ (sym (at_map owner_deque owners k old at) ∙ (ap (λ l. get_elem? l k) i.same ∙ at_map owner_deque init k was there)) in
    let pushed = c.in_ok-push.ensures.items in
    let next : k + 1 ≡ suc k = add-one k in
    record {
      first = each_put (λ (o : Owner). (owner_tally o).part ≡ First) owners k new (ap (λ (x : Tally). x.part) made.2 ∙ each_at (λ (o : Owner). (owner_tally o).part ≡ First) owners k old at i.first) i.first;
      same = map_put owner_deque owners k old new at c.thief.ensures.same ∙ i.same;
      row = subst (Each IsFreshThief) (sym pushed) (each_push IsFreshThief c.loop-k.thieves.items t i.row made.1);
      deques = ap thief_deques pushed ∙ (map_snoc thief_deque c.loop-k.thieves.items t ∙ (ap (λ l. l ++ thief_deque t ∷ []) i.deques
          ∙ (ap (λ d. owner_deques (take k init) ++ d ∷ []) (made.0 ∙ ids)
          ∙ sym (ap (λ n. owner_deques (take n init)) next ∙ (ap owner_deques (take_at init k was there) ∙ map_snoc owner_deque (take k init) was)))));
      fresh = λ n e.
          let f = i.fresh n e in
          let mine : IsFresh (n + 1) new = made.2 ∙ ap one_more_out (each_drop_at (IsFresh n) owners k old at f.1) in (
            subst (λ (x : ℕ). Each (IsFresh (n + 1)) (take x (set owners k new))) (sym next) (each_take_set (IsFresh (n + 1)) owners k new mine lt f.0),
            subst (λ (x : ℕ). Each (IsFresh n) (drop x (set owners k new))) (sym next) (each_drop_set (IsFresh n) owners k new f.1),
          );
    }

pub returns-clause-fresh : goal.returns-clause-fresh
returns-clause-fresh c = λ n e. subst (Each (IsFresh (n + 1))) (take_all c.loop-k.owners c.loop-k.k (omega arith)) (c.loop-k.invariant.fresh n e).0
