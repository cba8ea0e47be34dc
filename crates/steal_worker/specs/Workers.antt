-- Internal: a worker before its search.
use Rattle.std.specs.Prelude.{◌≡◌, ℕ, []}
use Rattle.best_word.specs.declared.part.Part.TheVariants.{Other}
use Rattle.best_word.specs.declared.word.BestWord.{BestWord}
use Rattle.best_word.specs.Handles.{best_view, IsSeatOf}
use Rattle.best_word.specs.Word.{newcomer}
use Rattle.steal_worker.specs.declared.walker.Walker.{Walker}
use Rattle.steal_worker.specs.Walks.{held_places}

module _ {J S : Type 0} where
  -- the worker of this number, which kept, saw, holds and closed nothing
  pub record IsNewWalker {T : Type 0} (IsFit : S → Type 0) (word : BestWord J T) (k : ℕ) (w : Walker J S) : Type 0 where
    pub number : w.number ≡ k
    pub seat : IsSeatOf word w.seat
    pub view : best_view w.seat ≡ newcomer Other
    pub fits : IsFit w.scratch
    pub held : held_places w.held ≡ []
    pub closed : w.closed ≡ []
