-- Internal: what a worker keeps true with its ends of the deques.
use Rattle.std.specs.Prelude.{◌≡◌, ℕ, zero, suc, ◌+◌, List, [], ◌∷◌, map}
use Rattle.std.proofs.Common.{Global}
use Rattle.res_base.specs.Lists.{Each, total}
use Rattle.best_word.specs.declared.part.Part.TheVariants.{First, Other}
use Rattle.best_word.specs.declared.word.BestWord.{BestWord}
use Rattle.best_word.specs.Handles.{best_view, IsSeatOf}
use Rattle.path_deque.specs.declared.deque.Tally.{Tally}
use Rattle.path_deque.specs.declared.deque.Thief.{Thief}
use Rattle.path_deque.specs.Ends.{owner_tally, owner_deque, thief_tally, thief_deque}
use Rattle.search_api.specs.declared.place.Place.{Place}
use Rattle.search_api.specs.Meaning.{Meaning}
use Rattle.steal_worker.specs.declared.worker.Job.{Job}
use Rattle.steal_worker.specs.Flows.{Flows}
use Rattle.steal_worker.specs.Walks.{Walks, held_places}

-- what thieves' ends got, by a weight
abbrev pub stolen : (ℕ → ℕ) → List Thief → ℕ
stolen h thieves = total (λ t. total h (thief_tally t).got) thieves

-- a thief's end is out, and put nothing
abbrev pub IsThief : Thief → Type 0
IsThief t = ((thief_tally t).part ≡ Other) × ((thief_tally t).put ≡ [])

-- which deques these are ends of
abbrev pub thief_deques : List Thief → List ((ℕ × ℕ) × Global)
thief_deques thieves = map thief_deque thieves

-- worker 0 is given path 1 to begin with
abbrev pub given : ℕ → List ℕ
given zero = 1 ∷ []
given (suc k) = []

-- what came to a worker: what it got from deques, and what it was given
abbrev pub came_by : ℕ → Tally → List Thief → (ℕ → ℕ) → ℕ
came_by number owner thieves h = total h owner.got + stolen h thieves + total h (given number)

-- what went from it into its deque
abbrev pub went_into : Tally → (ℕ → ℕ) → ℕ
went_into owner h = total h owner.put

module _ {J S : Type 0} where
  pub record Works (m : Meaning) (hand : List Place) (job : Job J S) : Type 0 where
    pub walks : Walks m job.walker.number hand (best_view job.walker.seat) (held_places job.walker.held) job.walker.closed
    pub flows : Flows m (came_by job.walker.number (owner_tally job.owner) job.thieves.items) (went_into (owner_tally job.owner)) hand (held_places job.walker.held) job.walker.closed
    pub owner : (owner_tally job.owner).part ≡ First
    pub thieves : Each IsThief job.thieves.items

  -- the same number, and ends of the same deques
  pub record IsSameJob (old new : Job J S) : Type 0 where
    pub number : new.walker.number ≡ old.walker.number
    pub deque : owner_deque new.owner ≡ owner_deque old.owner
    pub out : (owner_tally new.owner).out ≡ (owner_tally old.owner).out
    pub deques : thief_deques new.thieves.items ≡ thief_deques old.thieves.items

  -- a worker may begin with this job: nothing is in its hand
  abbrev pub IsReady : {T : Type 0} → Meaning → (S → Type 0) → BestWord J T → Job J S → Type 0
  IsReady m fits word job = IsSeatOf word job.walker.seat × fits job.walker.scratch × Works m [] job

  -- what a worker leaves: nothing is in its hand and in its private end
  pub record IsDone {T : Type 0} (m : Meaning) (word : BestWord J T) (old new : Job J S) : Type 0 where
    pub seat : IsSeatOf word new.walker.seat
    pub same : IsSameJob old new
    pub works : Works m [] new
    pub none_held : held_places new.walker.held ≡ []
