-- Workers in a list, the one of the least number last.
use Rattle.std.proofs.Common.{◌≡◌, ℕ, zero, suc, ◌+◌, List, [], ◌∷◌, ◌++◌, length, Vec, Global, sym, refl, ap, ◌∙◌, subst, arith, append_assoc, append-nil, length-append, add-one}
use Rattle.res_base.specs.Lists.{Each, total}
use Rattle.res_base.proofs.ListLemmas.{each_push, each_prefix, total_snoc}
use Rattle.best_word.specs.declared.part.Part.TheVariants.{First, Other}
use Rattle.best_word.specs.declared.word.BestWord.{BestWord}
use Rattle.best_word.specs.declared.word.View.{View}
use Rattle.best_word.specs.Handles.{best_view}
use Rattle.best_word.specs.Word.{view_of, newcomer, together}
use Rattle.path_deque.specs.declared.deque.Owner.{Owner}
use Rattle.path_deque.specs.declared.deque.Thief.{Thief}
use Rattle.path_deque.specs.declared.deque.Tally.{Tally}
use Rattle.path_deque.specs.Ends.{owner_tally, owner_deque, thief_tally}
use Rattle.path_deque.specs.Tallies.{tally}
use Rattle.box_split.specs.Paths.{covers}
use Rattle.search_api.specs.declared.outcome.Closed.{Closed}
use Rattle.search_api.specs.declared.place.Place.{Place}
use Rattle.search_api.specs.Meaning.{Meaning}
use Rattle.steal_worker.specs.declared.worker.Job.{Job}
use Rattle.steal_worker.specs.Flows.{Flows}
use Rattle.steal_worker.specs.Jobs.{stolen, IsThief, given, came_by, went_into, Works}
use Rattle.steal_worker.specs.Walks.{Walks, held_places}
use Rattle.steal_worker.proofs.WalkActs.{walks_same}
use Rattle.steal_pool.specs.declared.gather.Gathered.{Gathered}
use Rattle.steal_pool.specs.declared.shift.Shift.{Shift}
use Rattle.steal_pool.specs.Joined.{put_by, got_by, stolen_by, given_below, came_below, went_below, Joined}
use Rattle.steal_pool.specs.Crews.{Deques, owner_deques, IsFreshThief, IsOwner, IsRow, deques_of, FallTo, IsCrew, IsBack, TookIn, IsTakingIn, IsGathered, Ran, IsSetUp, AreSetUp, AreBack}
use Rattle.steal_pool.proofs.JoinedLemmas.{joined_none, joined_more, joined_same}
use Rattle.steal_pool.proofs.RowLemmas.{Along, map_snoc}

-- only worker 0 is given a path
pub given_first : (n : ℕ) → n ≡ 0 → given n ≡ 1 ∷ []
given_first zero e = refl
given_first (suc k) e = absurd (omega arith)

pub given_other : (n : ℕ) → (n ≡ 0 → ⊥) → given n ≡ []
given_other zero f = absurd (f refl)
given_other (suc k) f = refl

given_nothing : (g : ℕ → ℕ) (n : ℕ) → g 1 ≡ 0 → total g (given n) ≡ 0
given_nothing g zero e = omega (arith, e)
given_nothing g (suc k) e = refl

given_more : (h : ℕ → ℕ) (k : ℕ) → total h (given_below (k + 1)) ≡ total h (given_below k) + total h (given k)
given_more h zero = omega arith
given_more h (suc k) = let a : total h (given_below (suc k + 1)) ≡ h 1 + 0 = ap (λ n. total h (given_below n)) (add-one (suc k)) in omega (arith, a)

-- new ends got nothing
stolen_none : (h : ℕ → ℕ) (ts : List Thief) → Each IsFreshThief ts → stolen h ts ≡ 0
stolen_none h [] e = refl
stolen_none h (t ∷ ts) e = let a : total h (thief_tally t).got ≡ 0 = ap (λ (x : Tally). total h x.got) e.0 in omega (arith, a, stolen_none h ts e.1)

new_thieves : (ts : List Thief) → Each IsFreshThief ts → Each IsThief ts
new_thieves [] e = tt
new_thieves (t ∷ ts) e = ((ap (λ (x : Tally). x.part) e.0, ap (λ (x : Tally). x.put) e.0), new_thieves ts e.1)

-- a worker that has done nothing
pub fresh_walks : {J : Type 0} (m : Meaning) (k : ℕ) (v : View J) (held : List Place) (closed : List Closed) → v ≡ newcomer Other → held ≡ [] → closed ≡ [] → Walks m k [] v held closed
fresh_walks m k v held closed view none clear =
    walks_same m k k [] [] (newcomer Other) v [] held [] closed refl refl view none clear
    (record {
      boxes = record { entries = tt; ranks = refl; legal = tt; in_time = tt; cuts = tt; loads = omega arith };
      named = tt;
      part = refl;
      places = tt;
      deep = tt;
      hands = tt;
    })

module _ {J S : Type 0} where
  -- a worker that has done nothing accounts for what it was given, which is in its deque
  pub starts : (m : Meaning) (job : Job J S) (n : ℕ) → owner_tally job.owner ≡ tally First n (given job.walker.number) [] → Each IsFreshThief job.thieves.items
      → best_view job.walker.seat ≡ newcomer Other → held_places job.walker.held ≡ [] → job.walker.closed ≡ [] → Works m [] job
  starts m job n mine new view held closed =
      let t = owner_tally job.owner in
      let k = job.walker.number in
      let flows : Flows m (came_by k t job.thieves.items) (went_into t) [] [] [] = record {
        balance = λ choice. even (λ p. covers m.shape p choice);
        sourced = λ h g hh hg one none. record { went_on = ap (λ (x : Tally). total g x.put) mine ∙ given_nothing g k one; in_hand = refl; in_held = refl; halves_held = refl; in_closed = refl };
      } in
      record {
        walks = fresh_walks m k (best_view job.walker.seat) (held_places job.walker.held) job.walker.closed view held closed;
        flows = subst (λ (x : List Place). Flows m (came_by k t job.thieves.items) (went_into t) [] x job.walker.closed) (sym held)
            (subst (λ (x : List Closed). Flows m (came_by k t job.thieves.items) (went_into t) [] [] x) (sym closed) flows);
        owner = ap (λ (x : Tally). x.part) mine;
        thieves = new_thieves job.thieves.items new;
      }
    where
      even : (h : ℕ → ℕ) → came_by job.walker.number (owner_tally job.owner) job.thieves.items h ≡ went_into (owner_tally job.owner) h + 0 + 0 + 0
      even h =
          let a : total h (owner_tally job.owner).got ≡ 0 = ap (λ (x : Tally). total h x.got) mine in
          let b : total h (owner_tally job.owner).put ≡ total h (given job.walker.number) = ap (λ (x : Tally). total h x.put) mine in
          omega (arith, a, b, stolen_none h job.thieves.items new)

  fall_push : (k : ℕ) (ss : List (Shift J S)) (s : Shift J S) → s.job.walker.number ≡ k → FallTo (k + 1) ss → FallTo k (ss ++ s ∷ [])
  fall_push k [] s e f = (omega (arith, e), tt)
  fall_push k (x ∷ xs) s e f = ((let a = f.0 in omega (arith, a, length-append xs (s ∷ []))), fall_push k xs s e f.1)

  fall_pop : (k : ℕ) (ss : List (Shift J S)) (s : Shift J S) → FallTo k (ss ++ s ∷ []) → FallTo (k + 1) ss × (s.job.walker.number ≡ k)
  fall_pop k [] s f = (tt, (let a = f.0 in omega (arith, a)))
  fall_pop k (x ∷ xs) s f = let r = fall_pop k xs s f.1 in (((let a = f.0 in omega (arith, a, length-append xs (s ∷ []))), r.0), r.1)

  deques_snoc : (ss : List (Shift J S)) (s : Shift J S) → deques_of (ss ++ s ∷ []) ≡ owner_deque s.job.owner ∷ deques_of ss
  deques_snoc [] s = refl
  deques_snoc (x ∷ xs) s = ap (λ l. l ++ owner_deque x.job.owner ∷ []) (deques_snoc xs s)

  pub crew_none : (P : Shift J S → Type 0) (k : ℕ) (all : Deques) → IsCrew P k all all []
  crew_none P k all = record { each = tt; numbers = tt; deques = append-nil all }

  pub crew_push : (P : Shift J S → Type 0) (k : ℕ) (before all : Deques) (ss : List (Shift J S)) (s : Shift J S) → P s → s.job.walker.number ≡ k → IsCrew P (k + 1) (before ++ owner_deque s.job.owner ∷ []) all ss → IsCrew P k before all (ss ++ s ∷ [])
  crew_push P k before all ss s p e c = record {
    each = each_push P ss s c.each p;
    numbers = fall_push k ss s e c.numbers;
    deques = ap (λ l. before ++ l) (deques_snoc ss s) ∙ (sym (append_assoc before (owner_deque s.job.owner ∷ []) (deques_of ss)) ∙ c.deques);
  }

  pub crew_pop : (P : Shift J S → Type 0) (k : ℕ) (before all : Deques) (ss : List (Shift J S)) (s : Shift J S) → IsCrew P k before all (ss ++ s ∷ []) → P s × (s.job.walker.number ≡ k) × IsCrew P (k + 1) (before ++ owner_deque s.job.owner ∷ []) all ss
  crew_pop P k before all ss s c =
      let e = each_prefix P ss s c.each in
      let f = fall_pop k ss s c.numbers in
      (e.1, f.1, record { each = e.0; numbers = f.0; deques = append_assoc before (owner_deque s.job.owner ∷ []) (deques_of ss) ∙ (ap (λ l. before ++ l) (sym (deques_snoc ss s)) ∙ c.deques) })

  -- one more worker is taken in
  pub took : {T : Type 0} (m : Meaning) (word : BestWord J T) (n : ℕ) (all : Deques) (v w : View J) (g h : Gathered) (ss : List (Shift J S)) (s : Shift J S)
      → TookIn s v g w h → IsTakingIn m word n all v g (ss ++ s ∷ []) → IsTakingIn m word n all w h ss
  took m word n all v w g h ss s t i =
      let k = length g.owners.items in
      let pop = crew_pop (IsBack m word n all) k (owner_deques g.owners.items) all ss s i.crew in
      let back = pop.0 in
      let done = back.ended t.ended in
      let own = s.job.owner in
      let next : length h.owners.items ≡ k + 1 = ap (length {A = Owner}) t.owners ∙ length-append g.owners.items (own ∷ []) in
      let ids : owner_deques h.owners.items ≡ owner_deques g.owners.items ++ owner_deque own ∷ [] = ap owner_deques t.owners ∙ map_snoc owner_deque g.owners.items own in
      let shorter : length (ss ++ s ∷ []) ≡ length ss + 1 = length-append ss (s ∷ []) in
      let u = best_view s.job.walker.seat in
      let came' = came_by s.job.walker.number (owner_tally own) s.job.thieves.items in
      let went' = went_into (owner_tally own) in
      let flows : Flows m came' went' [] [] s.job.walker.closed = subst (λ (x : List Place). Flows m came' went' [] x s.job.walker.closed) done.none_held done.works.flows in
      let numbers : Each (λ (e : Closed). e.worker ≡ k) s.job.walker.closed = subst (λ (x : ℕ). Each (λ (e : Closed). e.worker ≡ x) s.job.walker.closed) pop.1 done.works.walks.named in
      let more = joined_more m k (came_below k g.owners.items g.rows.items) (went_below g.owners.items) came' went' v u g.closed s.job.walker.closed done.works.walks.boxes numbers flows i.joined in
      let sum = joined_same m (k + 1) (λ x. came_below k g.owners.items g.rows.items x + came' x) (λ x. went_below g.owners.items x + went' x) (came_below (k + 1) h.owners.items h.rows.items) (went_below h.owners.items) (together v u) (g.closed ++ s.job.walker.closed) came went more in
      record {
        crew = subst (λ (x : Deques). IsCrew (IsBack m word n all) (length h.owners.items) x all ss) (sym ids) (subst (λ (x : ℕ). IsCrew (IsBack m word n all) x (owner_deques g.owners.items ++ owner_deque own ∷ []) all ss) (sym next) pop.2);
        owners = subst (Each (IsOwner n)) (sym t.owners) (each_push (IsOwner n) g.owners.items own i.owners (done.works.owner, back.out));
        rows = subst (Each (IsRow all)) (sym t.rows) (each_push (IsRow all) g.rows.items s.job.thieves i.rows (done.works.thieves, back.deques));
        count = (let a = ap (length {A = Vec Thief Global}) t.rows in let b = i.count in omega (arith, a, b, next, length-append g.rows.items (s.job.thieves ∷ [])));
        all_count = (let a = i.all_count in omega (arith, a, next, shorter));
        first = ap (λ (x : View J). x.part) t.joined ∙ i.first;
        out = (let a = ap (λ (x : View J). x.out) t.joined in let b = i.out in omega (arith, a, b, shorter));
        joined = subst (λ (x : ℕ). Joined m x (came_below x h.owners.items h.rows.items) (went_below h.owners.items) w h.closed) (sym next)
            (subst (λ (x : View J). Joined m (k + 1) (came_below (k + 1) h.owners.items h.rows.items) (went_below h.owners.items) x h.closed) (sym t.joined)
            (subst (λ (x : List Closed). Joined m (k + 1) (came_below (k + 1) h.owners.items h.rows.items) (went_below h.owners.items) (together v u) x) (sym t.closed) sum));
      }
    where
      went : (x : ℕ → ℕ) → went_below h.owners.items x ≡ went_below g.owners.items x + went_into (owner_tally s.job.owner) x
      went x = ap (put_by x) t.owners ∙ total_snoc (λ (o : Owner). total x (owner_tally o).put) g.owners.items s.job.owner

      came : (x : ℕ → ℕ) → came_below (length g.owners.items + 1) h.owners.items h.rows.items x ≡ came_below (length g.owners.items) g.owners.items g.rows.items x + came_by s.job.walker.number (owner_tally s.job.owner) s.job.thieves.items x
      came x =
          let a : got_by x h.owners.items ≡ got_by x g.owners.items + total x (owner_tally s.job.owner).got = ap (got_by x) t.owners ∙ total_snoc (λ (o : Owner). total x (owner_tally o).got) g.owners.items s.job.owner in
          let b : stolen_by x h.rows.items ≡ stolen_by x g.rows.items + stolen x s.job.thieves.items = ap (stolen_by x) t.rows ∙ total_snoc (λ (r : Vec Thief Global). stolen x r.items) g.rows.items s.job.thieves in
          let c = given_more x (length g.owners.items) in
          let number : s.job.walker.number ≡ length g.owners.items = (crew_pop (IsBack m word n all) (length g.owners.items) (owner_deques g.owners.items) all ss s i.crew).1 in
          let d : total x (given s.job.walker.number) ≡ total x (given (length g.owners.items)) = ap (λ k. total x (given k)) number in
          omega (arith, a, b, c, d)

  -- no worker is taken in yet
  pub taking_none : {T : Type 0} (m : Meaning) (word : BestWord J T) (all : Deques) (v : View J) (g : Gathered) (ss : List (Shift J S)) → g.owners.items ≡ [] → g.rows.items ≡ [] → g.closed ≡ [] → v ≡ view_of First (length ss) [] [] 0
      → IsCrew (IsBack m word (length ss) all) 0 [] all ss → IsTakingIn m word (length ss) all v g ss
  taking_none m word all v g ss owners rows closed view crew =
      let zero_owners : length g.owners.items ≡ 0 = ap (length {A = Owner}) owners in
      let zero_rows : length g.rows.items ≡ 0 = ap (length {A = Vec Thief Global}) rows in
      let came : (h : ℕ → ℕ) → came_below 0 g.owners.items g.rows.items h ≡ 0 = λ h. (let a : got_by h g.owners.items ≡ 0 = ap (got_by h) owners in let b : stolen_by h g.rows.items ≡ 0 = ap (stolen_by h) rows in omega (arith, a, b)) in
      let none = joined_none m v (ap (λ (x : View J). x.kept) view) in
      let start = joined_same m 0 (λ h. 0) (λ h. 0) (came_below 0 g.owners.items g.rows.items) (went_below g.owners.items) v [] came (λ h. ap (put_by h) owners) none in
      record {
        crew = subst (λ (d : Deques). IsCrew (IsBack m word (length ss) all) (length g.owners.items) d all ss) (sym (ap owner_deques owners)) (subst (λ (k : ℕ). IsCrew (IsBack m word (length ss) all) k [] all ss) (sym zero_owners) crew);
        owners = subst (Each (IsOwner (length ss))) (sym owners) tt;
        rows = subst (Each (IsRow all)) (sym rows) tt;
        count = zero_rows ∙ sym zero_owners;
        all_count = omega (arith, zero_owners);
        first = ap (λ (x : View J). x.part) view;
        out = ap (λ (x : View J). x.out) view;
        joined = subst (λ (k : ℕ). Joined m k (came_below k g.owners.items g.rows.items) (went_below g.owners.items) v g.closed) (sym zero_owners)
            (subst (λ (x : List Closed). Joined m 0 (came_below 0 g.owners.items g.rows.items) (went_below g.owners.items) v x) (sym closed) start);
      }

  -- all workers are taken in
  pub taken_all : {T : Type 0} (m : Meaning) (word : BestWord J T) (n : ℕ) (all : Deques) (v : View J) (g : Gathered) (ss : List (Shift J S)) → ss ≡ [] → IsTakingIn m word n all v g ss → IsGathered m n v g
  taken_all m word n all v g ss none i =
      let zero_left : length ss ≡ 0 = ap (length {A = Shift J S}) none in
      let full : length g.owners.items ≡ n = (let a = i.all_count in omega (arith, a, zero_left)) in
      let ids : owner_deques g.owners.items ≡ all = sym (append-nil (owner_deques g.owners.items)) ∙ (ap (λ l. owner_deques g.owners.items ++ deques_of l) (sym none) ∙ i.crew.deques) in
      let rows : length g.rows.items ≡ n = i.count ∙ full in
      record {
        owners = subst (λ (k : ℕ). Each (IsOwner k) g.owners.items) (sym rows) i.owners;
        rows = subst (λ (d : Deques). Each (IsRow d) g.rows.items) (sym ids) i.rows;
        first = i.first;
        none_out = i.out ∙ zero_left;
        joined = subst (λ (k : ℕ). Joined m k (came_below k g.owners.items g.rows.items) (went_below g.owners.items) v g.closed) full i.joined;
      }

  module _ {T : Type 0} (m : Meaning) (fits : S → Type 0) (word : BestWord J T) where
    back_one : (n : ℕ) (all : Deques) (s u : Shift J S) → Ran m word s u → IsSetUp m fits word n all s → IsBack m word n all u
    back_one n all s u r p = record {
      ended = λ e. let d = r.1 e in record { seat = d.seat; works = d.works; none_held = d.none_held };
      out = r.0.out ∙ p.out;
      deques = r.0.deques ∙ p.deques;
    }

    along_length : (ss us : List (Shift J S)) → Along (Ran m word) ss us → length us ≡ length ss
    along_length [] [] a = refl
    along_length [] (u ∷ us) a = absurd a
    along_length (s ∷ ss) [] a = absurd a
    along_length (s ∷ ss) (u ∷ us) a = omega (arith, along_length ss us a.1)

    along_each : (n : ℕ) (all : Deques) (ss us : List (Shift J S)) → Along (Ran m word) ss us → Each (IsSetUp m fits word n all) ss → Each (IsBack m word n all) us
    along_each n all [] [] a e = tt
    along_each n all [] (u ∷ us) a e = absurd a
    along_each n all (s ∷ ss) [] a e = absurd a
    along_each n all (s ∷ ss) (u ∷ us) a e = (back_one n all s u a.0 e.0, along_each n all ss us a.1 e.1)

    along_fall : (k : ℕ) (ss us : List (Shift J S)) → Along (Ran m word) ss us → FallTo k ss → FallTo k us
    along_fall k [] [] a f = tt
    along_fall k [] (u ∷ us) a f = absurd a
    along_fall k (s ∷ ss) [] a f = absurd a
    along_fall k (s ∷ ss) (u ∷ us) a f = ((let l = along_length ss us a.1 in let n = a.0.0.number in let o = f.0 in omega (arith, l, n, o)), along_fall k ss us a.1 f.1)

    along_deques : (ss us : List (Shift J S)) → Along (Ran m word) ss us → deques_of us ≡ deques_of ss
    along_deques [] [] a = refl
    along_deques [] (u ∷ us) a = absurd a
    along_deques (s ∷ ss) [] a = absurd a
    along_deques (s ∷ ss) (u ∷ us) a = ap (λ l. l ++ owner_deque u.job.owner ∷ []) (along_deques ss us a.1) ∙ ap (λ d. deques_of ss ++ d ∷ []) a.0.0.deque

    -- each worker ran
    pub all_back : (ss us : List (Shift J S)) → Along (Ran m word) ss us → AreSetUp m fits word ss → AreBack m word us
    all_back ss us a p =
        let l = along_length ss us a in (
          p.0,
          record {
            each = subst (λ (n : ℕ). Each (IsBack m word n p.0) us) (sym l) (along_each (length ss) p.0 ss us a p.1.each);
            numbers = along_fall 0 ss us a p.1.numbers;
            deques = along_deques ss us a ∙ p.1.deques;
          },
        )
