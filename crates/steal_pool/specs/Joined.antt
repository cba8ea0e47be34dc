-- Internal: what some workers account for together.
use Rattle.std.specs.Prelude.{◌≡◌, ℕ, zero, suc, ◌+◌, ◌<◌, List, [], ◌∷◌}
use Rattle.std.proofs.Common.{Vec, Global}
use Rattle.res_base.specs.Lists.{Each, total}
use Rattle.best_word.specs.declared.part.Part.TheVariants.{First}
use Rattle.best_word.specs.declared.word.View.{View}
use Rattle.best_word.specs.Word.{one_more_out, together}
use Rattle.path_deque.specs.declared.deque.Owner.{Owner}
use Rattle.path_deque.specs.declared.deque.Thief.{Thief}
use Rattle.path_deque.specs.Ends.{owner_tally}
use Rattle.search_api.specs.declared.outcome.Closed.{Closed}
use Rattle.search_api.specs.Meaning.{Meaning}
use Rattle.steal_worker.specs.Flows.{Flows}
use Rattle.steal_worker.specs.Jobs.{stolen}
use Rattle.steal_worker.specs.Walks.{AreClosed}

-- what ends of deques put and got, by a weight
abbrev pub put_by : (ℕ → ℕ) → List Owner → ℕ
put_by h owners = total (λ o. total h (owner_tally o).put) owners

abbrev pub got_by : (ℕ → ℕ) → List Owner → ℕ
got_by h owners = total (λ o. total h (owner_tally o).got) owners

abbrev pub stolen_by : (ℕ → ℕ) → List (Vec Thief Global) → ℕ
stolen_by h rows = total (λ (r : Vec Thief Global). stolen h r.items) rows

-- what the workers of the numbers below k were given to begin with
abbrev pub given_below : ℕ → List ℕ
given_below zero = []
given_below (suc k) = 1 ∷ []

-- what came to the workers of the numbers below k
abbrev pub came_below : ℕ → List Owner → List (Vec Thief Global) → (ℕ → ℕ) → ℕ
came_below k owners rows h = got_by h owners + stolen_by h rows + total h (given_below k)

abbrev pub went_below : List Owner → (ℕ → ℕ) → ℕ
went_below owners h = put_by h owners

-- a worker that holds nothing accounts for one more path that came to it
abbrev pub TakesUp : Meaning → ℕ → List Closed → List Closed → Type 0
TakesUp m path closed new = (came went : (ℕ → ℕ) → ℕ) → Flows m came went [] [] closed → Flows m (λ h. came h + h path) went [] [] new

module _ {J : Type 0} where
  -- workers of numbers below k, who hold nothing, account for the boxes that they closed, with a seat that knows what theirs knew
  pub record Joined (m : Meaning) (k : ℕ) (came went : (ℕ → ℕ) → ℕ) (v : View J) (closed : List Closed) : Type 0 where
    pub boxes : AreClosed m v closed
    pub numbers : Each (λ (e : Closed). e.worker < k) closed
    pub flows : Flows m came went [] [] closed

  -- what the worker of number k did, whose seat was made by the first one and taken back
  pub record Worked (m : Meaning) (k : ℕ) (came : (ℕ → ℕ) → ℕ) (old new : View J) (closed : List Closed) : Type 0 where
    pub own : View J
    pub joined : new ≡ together (one_more_out old) own
    pub boxes : AreClosed m own closed
    pub numbers : Each (λ (e : Closed). e.worker ≡ k) closed
    pub flows : Flows m came (λ h. 0) [] [] closed

  -- workers of numbers below n account for a whole search: what came to them is what went on, and path 1; their seats were taken back
  pub record IsWhole (m : Meaning) (n : ℕ) (v : View J) (closed : List Closed) : Type 0 where
    pub came : (ℕ → ℕ) → ℕ
    pub went : (ℕ → ℕ) → ℕ
    pub joined : Joined m n came went v closed
    pub all : (h : ℕ → ℕ) → came h ≡ went h + h 1
    pub nothing : (h : ℕ → ℕ) → ((p : ℕ) → h p ≡ 0) → came h ≡ 0
    pub first : v.part ≡ First
    pub none_out : v.out ≡ 0
