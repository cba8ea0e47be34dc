-- What the workers and the caller did is a whole search.
use Rattle.std.proofs.Common.{◌≡◌, ℕ, zero, suc, ◌+◌, ◌<◌, ◌≤◌, List, ◌++◌, Vec, Global, sym, ap, ◌∙◌, subst, arith}
use Rattle.res_base.specs.Lists.{Each, total}
use Rattle.res_base.proofs.ListLemmas.{each_map, total_zero}
use Rattle.best_word.specs.declared.word.View.{View}
use Rattle.best_word.specs.Word.{one_more_out}
use Rattle.path_deque.specs.declared.deque.Owner.{Owner}
use Rattle.path_deque.specs.declared.deque.Thief.{Thief}
use Rattle.path_deque.specs.Ends.{owner_tally, thief_tally}
use Rattle.search_api.specs.declared.outcome.Closed.{Closed}
use Rattle.search_api.specs.Meaning.{Meaning}
use Rattle.steal_worker.specs.Jobs.{stolen}
use Rattle.steal_pool.specs.declared.gather.Gathered.{Gathered}
use Rattle.steal_pool.specs.Crews.{IsGathered}
use Rattle.steal_pool.specs.Joined.{put_by, got_by, stolen_by, given_below, came_below, went_below, Joined, Worked, IsWhole}
use Rattle.steal_pool.proofs.JoinedLemmas.{joined_more}

given_some : (h : ℕ → ℕ) (n : ℕ) → 1 ≤ n → total h (given_below n) ≡ h 1
given_some h zero l = absurd (omega arith)
given_some h (suc k) l = omega arith

-- where each path weighs nothing, nothing came
module _ (h : ℕ → ℕ) (z : (p : ℕ) → h p ≡ 0) where
  paths_nothing : (ps : List ℕ) → total h ps ≡ 0
  paths_nothing ps = total_zero h ps (λ j p e. z p)

  ends_nothing : (ts : List Thief) → stolen h ts ≡ 0
  ends_nothing ts = total_zero (λ (t : Thief). total h (thief_tally t).got) ts (λ j t e. paths_nothing (thief_tally t).got)

  came_nothing : (n : ℕ) (owners : List Owner) (rows : List (Vec Thief Global)) → came_below n owners rows h ≡ 0
  came_nothing n owners rows =
      let a = total_zero (λ (o : Owner). total h (owner_tally o).got) owners (λ j o e. paths_nothing (owner_tally o).got) in
      let b = total_zero (λ (r : Vec Thief Global). stolen h r.items) rows (λ j r e. ends_nothing r.items) in
      let c = paths_nothing (given_below n) in
      omega (arith, a, b, c)

module _ {J : Type 0} where
  -- a seat that is out changes nothing of what was done
  still : (m : Meaning) (n : ℕ) (came went : (ℕ → ℕ) → ℕ) (v : View J) (closed : List Closed) → Joined m n came went v closed → Joined m n came went (one_more_out v) closed
  still m n came went v closed j = record {
    boxes = (let b = j.boxes in record { entries = b.entries; ranks = b.ranks; legal = b.legal; in_time = b.in_time; cuts = b.cuts; loads = b.loads });
    numbers = j.numbers;
    flows = j.flows;
  }

  pub whole_search : (m : Meaning) (n : ℕ) (g : Gathered) (left : List ℕ) (v w : View J) (more : List Closed) → 1 ≤ n → IsGathered m n v g
      → ((h : ℕ → ℕ) → put_by h g.owners.items + 0 ≡ got_by h g.owners.items + stolen_by h g.rows.items + total h left) → Worked m n (λ h. total h left) v w more → IsWhole m (n + 1) w (g.closed ++ more)
  whole_search m n g left v w more some i even k =
      let came = came_below n g.owners.items g.rows.items in
      let went = went_below g.owners.items in
      record {
        came = λ h. came h + total h left;
        went = λ h. went h + 0;
        joined = subst (λ (x : View J). Joined m (n + 1) (λ h. came h + total h left) (λ h. went h + 0) x (g.closed ++ more)) (sym k.joined)
            (joined_more m n came went (λ h. total h left) (λ h. 0) (one_more_out v) k.own g.closed more k.boxes k.numbers k.flows (still m n came went v g.closed i.joined));
        all = λ h. let a = even h in let b = given_some h n some in omega (arith, a, b);
        nothing = λ h z. let a = came_nothing h z n g.owners.items g.rows.items in let b = paths_nothing h z left in omega (arith, a, b);
        first = ap (λ (x : View J). x.part) k.joined ∙ i.first;
        none_out = (let a = ap (λ (x : View J). x.out) k.joined in let b = i.none_out in omega (arith, a, b));
      }

  -- each number is at most that of the caller
  pub numbered : (m : Meaning) (n : ℕ) (v : View J) (closed : List Closed) → IsWhole m (n + 1) v closed → Each (λ (e : Closed). e.worker ≤ n) closed
  numbered m n v closed w = each_map (λ (e : Closed). e.worker < n + 1) (λ (e : Closed). e.worker ≤ n) closed (λ e l. omega (arith, l)) w.joined.numbers
