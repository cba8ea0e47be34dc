-- What the first seat of a word knows when a search by several workers has ended.
use Rattle.std.specs.Prelude.{◌≡◌, ℕ, ◌+◌, ◌≤◌, List, length}
use Rattle.res_base.specs.Lists.{Each, Member}
use Rattle.best_word.specs.declared.part.Part.TheVariants.{First}
use Rattle.best_word.specs.declared.word.View.{View}
use Rattle.search_api.specs.declared.outcome.Closed.{Closed}
use Rattle.steal_worker.specs.Walks.{IfCut}

module _ {J : Type 0} where
  -- the seat is first and has none out; it kept the ranks of the outcome and no others; it saw the rank of each cut;
  -- and for each closed box the word was loaded
  pub record Knows (kept : List ℕ) (closed : List Closed) (v : View J) : Type 0 where
    pub first : v.part ≡ First
    pub none_out : v.out ≡ 0
    pub kept_is : v.kept ≡ kept
    pub saw : Each (λ (e : Closed). IfCut e.cause (λ rank. Member rank v.saw)) closed
    pub loads : length closed ≤ length v.saw + v.blank
