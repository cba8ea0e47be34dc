-- What holds of a core between any two events.
use Rattle.std.specs.Prelude.{◌≡◌, ℕ, ◌≤◌, List, ◌++◌, Option, Some, None, IsSome, length, map}
use Rattle.std.specs.List.{concat, flat_map}
use Rattle.std.specs.Option.{option_to_list}
use Rattle.std.proofs.Math.Dec.{eqb}
use Rattle.res_base.specs.Lists.{Each, Member, total}
use Rattle.res_base.specs.Sums.{one_if}
use Rattle.choice_rank.specs.Choices.{IsChoice}
use Rattle.box_split.specs.Paths.{box_of, covers}
use Rattle.search_api.specs.declared.outcome.Cause.{Cause}
use Rattle.search_api.specs.declared.outcome.Cause.TheVariants as cause
use Rattle.search_api.specs.declared.outcome.Closed.{Closed}
use Rattle.search_api.specs.Meaning.{Meaning}
use Rattle.search_api.specs.Accounts.{IsEntry, IsLegalRank, OpenAbove}
use Rattle.search_core.specs.declared.state.Hand.{Hand}
use Rattle.search_core.specs.declared.state.Core.{Core}

-- how often a number stands in a list
abbrev pub times : ℕ → List ℕ → ℕ
times x xs = total (λ y. one_if (eqb y x)) xs

-- no number stands in the list twice
abbrev pub NoneTwice : List ℕ → Type 0
NoneTwice xs = (x : ℕ) → times x xs ≤ 1

-- the paths of a core: those in its deques, in its hands and in its closed list
abbrev pub entries : Core → List ℕ
entries c = concat c.deques ++ (flat_map (λ (h : Hand). option_to_list h.path) c.hands ++ map (λ (e : Closed). e.path) c.closed)

-- the ranks that hands owe
abbrev pub owed : List Hand → List ℕ
owed hands = flat_map (λ (h : Hand). option_to_list h.owed) hands

-- the ranks of the leaves among the closed boxes
abbrev pub leaf_rank : Cause → Option ℕ
leaf_rank (cause.Bad reason) = None
leaf_rank (cause.Cut rank) = None
leaf_rank (cause.Leaf rank) = Some rank

abbrev pub leaf_ranks : List Closed → List ℕ
leaf_ranks closed = flat_map (λ (e : Closed). option_to_list (leaf_rank e.cause)) closed

-- the rank was kept, and no hand owes it any more
abbrev pub WasOffered : List ℕ → List ℕ → ℕ → Type 0
WasOffered kept debts rank = Member rank kept × (Member rank debts → ⊥)

-- the least rank that was offered; none exactly where none was
abbrev pub IsWord : List ℕ → List ℕ → Option ℕ → Type 0
IsWord kept debts None = (rank : ℕ) → WasOffered kept debts rank → ⊥
IsWord kept debts (Some word) = WasOffered kept debts word × ((rank : ℕ) → WasOffered kept debts rank → word ≤ rank)

-- a rank that a worker saw was kept, and is at least the word
abbrev pub IsSeen : List ℕ → Option ℕ → Option ℕ → Type 0
IsSeen kept word None = Unit {0}
IsSeen kept word (Some rank) = Member rank kept × ((least : ℕ) × (word ≡ Some least) × (least ≤ rank))

pub record Fits (m : Meaning) (c : Core) : Type 0 where
  -- each worker has a hand and a deque
  pub workers : length c.hands ≡ length c.deques
  -- each choice lies in the box of exactly one entry, and each entry is a path
  pub cover : (choice : List ℕ) → IsChoice m.shape choice → total (λ p. covers m.shape p choice) (entries c) ≡ 1
  pub paths : Each (λ p. IsSome (box_of m.shape p)) (entries c)
  -- a hand that owes has no path; each owed rank was kept, and no two hands owe the same one
  pub owing : Each (λ (h : Hand). IsSome h.owed → h.path ≡ None) c.hands
  pub owed_kept : Each (λ rank. Member rank c.kept) (owed c.hands)
  pub owed_once : NoneTwice (owed c.hands)
  -- the word is the least rank that was offered
  pub word : IsWord c.kept (owed c.hands) c.word
  -- each rank that a worker saw was kept, and is at least the word
  pub seen : Each (λ (h : Hand). IsSeen c.kept c.word h.seen) c.hands
  -- each closed box is accounted for: a bad reason refutes it and is the verdict on it, a cut's rank was kept and is below its low,
  -- a leaf has one choice of its rank, which was kept
  pub closed : Each (IsEntry m c.kept) c.closed
  -- each kept rank is that of a legal choice, was kept once, and is the rank of a leaf that was closed
  pub legal : Each (IsLegalRank m) c.kept
  pub kept_once : NoneTwice c.kept
  pub leaves : Each (λ rank. Member rank (leaf_ranks c.closed)) c.kept
  -- the verdict is open on the box of each proper prefix of an entry
  pub open_above : Each (OpenAbove m) (entries c)
