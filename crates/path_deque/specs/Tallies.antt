-- What was put into a deque is what was got from it, and what it holds.
use Rattle.std.specs.Prelude.{◌≡◌, ℕ, ◌+◌, ◌-◌, List, [], ◌++◌}
use mathlib.Core.Option.{some}
use lib.ListN.{get_elem?}
use Rattle.best_word.specs.declared.part.Part.{Part}
use Rattle.best_word.specs.declared.part.Part.TheVariants.{First, Spent}
use Rattle.best_word.specs.Parts.{OneFirst}
use Rattle.res_base.specs.Lists.{total}
use Rattle.path_deque.specs.declared.deque.Tally.{Tally}

abbrev pub tally : Part → ℕ → List ℕ → List ℕ → Tally
tally part out put got = record { part = part; out = out; put = put; got = got }

-- an end that put and got nothing
abbrev pub empty_tally : Part → Tally
empty_tally part = tally part 0 [] []

abbrev pub one_more_out : Tally → Tally
one_more_out t = tally t.part (t.out + 1) t.put t.got

abbrev pub put_more : Tally → List ℕ → Tally
put_more t paths = tally t.part t.out (t.put ++ paths) t.got

abbrev pub got_more : Tally → List ℕ → Tally
got_more t paths = tally t.part t.out t.put (t.got ++ paths)

abbrev pub together : Tally → Tally → Tally
together t u = tally t.part (t.out - 1) (t.put ++ u.put) (t.got ++ u.got)

-- however paths are weighed, as much was put as was got and is there
pub record IsBalanced (paths : List ℕ) (tallies : List Tally) : Type 0 where
  pub even : (h : ℕ → ℕ) → total (λ (t : Tally). total h t.put) tallies ≡ total (λ (t : Tally). total h t.got) tallies + total h paths
  pub parts : OneFirst (λ (t : Tally). t.part) (λ (t : Tally). t.out) tallies
  pub spent : (port : ℕ) (t : Tally) → get_elem? tallies port ≡ some t → t.part ≡ Spent → (t.put ≡ []) × (t.got ≡ [])

-- nothing is left: where the end is the owner's and no other is out, as much was put as was got
abbrev pub IsDrained : Tally → Type 0
IsDrained t = t.part ≡ First → t.out ≡ 0 → (h : ℕ → ℕ) → total h t.put ≡ total h t.got
