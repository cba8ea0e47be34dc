-- Internal: the workers in a list, the one of the least number last.
use Rattle.std.specs.Prelude.{◌≡◌, ℕ, ◌+◌, List, [], ◌∷◌, ◌++◌, length, map, IsOk}
use Rattle.std.proofs.Common.{Vec, Global}
use Rattle.res_base.specs.Lists.{Each}
use Rattle.best_word.specs.declared.part.Part.TheVariants.{First, Other}
use Rattle.best_word.specs.declared.word.BestWord.{BestWord}
use Rattle.best_word.specs.declared.word.View.{View}
use Rattle.best_word.specs.Handles.{IsSeatOf, best_view}
use Rattle.best_word.specs.Word.{together}
use Rattle.path_deque.specs.declared.deque.Owner.{Owner}
use Rattle.path_deque.specs.declared.deque.Thief.{Thief}
use Rattle.path_deque.specs.Ends.{owner_tally, owner_deque, thief_tally}
use Rattle.path_deque.specs.Tallies.{tally, empty_tally}
use Rattle.search_api.specs.Meaning.{Meaning}
use Rattle.steal_worker.specs.Jobs.{IsThief, thief_deques, Works, IsSameJob, IsReady, IsDone}
use Rattle.steal_worker.specs.Walks.{held_places}
use Rattle.steal_pool.specs.declared.gather.Gathered.{Gathered}
use Rattle.steal_pool.specs.declared.shift.Shift.{Shift}
use Rattle.steal_pool.specs.Joined.{Joined, came_below, went_below}

-- which deques
abbrev pub Deques : Type 0
Deques = List ((ℕ × ℕ) × Global)

abbrev pub owner_deques : List Owner → Deques
owner_deques owners = map owner_deque owners

-- an owner's end that put and got nothing, with n others out
abbrev pub IsFresh : ℕ → Owner → Type 0
IsFresh n o = owner_tally o ≡ tally First n [] []

-- a thief's end that got nothing
abbrev pub IsFreshThief : Thief → Type 0
IsFreshThief t = thief_tally t ≡ empty_tally Other

-- an end of each deque, none of which got anything
abbrev pub IsFreshRow : Deques → Vec Thief Global → Type 0
IsFreshRow deques row = Each IsFreshThief row.items × (thief_deques row.items ≡ deques)

-- an end of each deque
abbrev pub IsRow : Deques → Vec Thief Global → Type 0
IsRow deques row = Each IsThief row.items × (thief_deques row.items ≡ deques)

-- an owner's end with n others out
abbrev pub IsOwner : ℕ → Owner → Type 0
IsOwner n o = ((owner_tally o).part ≡ First) × ((owner_tally o).out ≡ n)

module _ {J S : Type 0} where
  -- the deques that the workers own, the last worker's first
  abbrev pub deques_of : List (Shift J S) → Deques
  deques_of [] = []
  deques_of (s ∷ ss) = deques_of ss ++ owner_deque s.job.owner ∷ []

  -- the numbers fall to k
  abbrev pub FallTo : ℕ → List (Shift J S) → Type 0
  FallTo k [] = Unit {0}
  FallTo k (s ∷ ss) = (s.job.walker.number ≡ k + length ss) × FallTo k ss

  -- P holds of each worker, the numbers fall to k, and the deques that they own follow others
  pub record IsCrew (P : Shift J S → Type 0) (k : ℕ) (before all : Deques) (shifts : List (Shift J S)) : Type 0 where
    pub each : Each P shifts
    pub numbers : FallTo k shifts
    pub deques : before ++ deques_of shifts ≡ all

  -- a worker that may begin, with an end of each deque
  pub record IsSetUp {T : Type 0} (m : Meaning) (fits : S → Type 0) (word : BestWord J T) (n : ℕ) (all : Deques) (s : Shift J S) : Type 0 where
    pub ready : IsReady m fits word s.job
    pub out : (owner_tally s.job.owner).out ≡ n
    pub deques : thief_deques s.job.thieves.items ≡ all

  -- what one worker did
  abbrev pub Ran : {T : Type 0} → Meaning → BestWord J T → Shift J S → Shift J S → Type 0
  Ran m word old new = IsSameJob old.job new.job × (IsOk new.ended → IsDone m word old.job new.job)

  -- a worker that has ended with nothing in its hand and its private end
  pub record HasEnded {T : Type 0} (m : Meaning) (word : BestWord J T) (s : Shift J S) : Type 0 where
    pub seat : IsSeatOf word s.job.walker.seat
    pub works : Works m [] s.job
    pub none_held : held_places s.job.walker.held ≡ []

  -- a worker, after the search
  pub record IsBack {T : Type 0} (m : Meaning) (word : BestWord J T) (n : ℕ) (all : Deques) (s : Shift J S) : Type 0 where
    pub ended : IsOk s.ended → HasEnded m word s
    pub out : (owner_tally s.job.owner).out ≡ n
    pub deques : thief_deques s.job.thieves.items ≡ all

  -- all workers before the search, and after it
  abbrev pub AreSetUp : {T : Type 0} → Meaning → (S → Type 0) → BestWord J T → List (Shift J S) → Type 0
  AreSetUp m fits word shifts = (all : Deques) × IsCrew (IsSetUp m fits word (length shifts) all) 0 [] all shifts

  abbrev pub AreBack : {T : Type 0} → Meaning → BestWord J T → List (Shift J S) → Type 0
  AreBack m word shifts = (all : Deques) × IsCrew (IsBack m word (length shifts) all) 0 [] all shifts

  -- what one worker left was added
  pub record TookIn (s : Shift J S) (v : View J) (g : Gathered) (w : View J) (h : Gathered) : Type 0 where
    pub ended : IsOk s.ended
    pub owners : h.owners.items ≡ g.owners.items ++ s.job.owner ∷ []
    pub rows : h.rows.items ≡ g.rows.items ++ s.job.thieves ∷ []
    pub closed : h.closed ≡ g.closed ++ s.job.walker.closed
    pub joined : w ≡ together v (best_view s.job.walker.seat)

  -- while the workers are taken in: those of the numbers below k are, and these are left
  pub record IsTakingIn {T : Type 0} (m : Meaning) (word : BestWord J T) (n : ℕ) (all : Deques) (v : View J) (g : Gathered) (shifts : List (Shift J S)) : Type 0 where
    pub crew : IsCrew (IsBack m word n all) (length g.owners.items) (owner_deques g.owners.items) all shifts
    pub owners : Each (IsOwner n) g.owners.items
    pub rows : Each (IsRow all) g.rows.items
    pub count : length g.rows.items ≡ length g.owners.items
    pub all_count : length g.owners.items + length shifts ≡ n
    pub first : v.part ≡ First
    pub out : v.out ≡ length shifts
    pub joined : Joined m (length g.owners.items) (came_below (length g.owners.items) g.owners.items g.rows.items) (went_below g.owners.items) v g.closed

-- what was gathered of n workers, with a seat that knows what theirs knew
module _ {J : Type 0} where
  pub record IsGathered (m : Meaning) (n : ℕ) (v : View J) (g : Gathered) : Type 0 where
    pub owners : Each (IsOwner (length g.rows.items)) g.owners.items
    pub rows : Each (IsRow (owner_deques g.owners.items)) g.rows.items
    pub first : v.part ≡ First
    pub none_out : v.out ≡ 0
    pub joined : Joined m n (came_below n g.owners.items g.rows.items) (went_below g.owners.items) v g.closed
