-- The eight events: when each is possible, and the core after it.
use Rattle.std.specs.Prelude.{◌≡◌, ◌≢◌, ℕ, ◌+◌, ◌*◌, ◌-◌, ◌<◌, List, [], ◌∷◌, ◌++◌, Bool, true, false, Option, Some, None, Result, Ok, Err, min, set, replicate, slice_get}
use Rattle.res_base.specs.declared.memory.OutOfMemory.{OutOfMemory}
use Rattle.box_split.specs.Boxes.{Run, low_of}
use Rattle.box_split.specs.Paths.{box_of}
use Rattle.search_api.specs.declared.verdict.Reason.{Reason}
use Rattle.search_api.specs.declared.verdict.Verdict.TheVariants as verdict
use Rattle.search_api.specs.declared.outcome.Cause.{Cause}
use Rattle.search_api.specs.declared.outcome.Cause.TheVariants as cause
use Rattle.search_api.specs.Meaning.{Meaning}
use Rattle.search_core.specs.declared.event.Event.{Event}
use Rattle.search_core.specs.declared.event.Event.TheVariants as event
use Rattle.search_core.specs.declared.state.Hand.{Hand}
use Rattle.search_core.specs.declared.state.Core.{Core}

-- a hand with no path, which saw nothing and owes nothing
abbrev pub empty_hand : Hand
empty_hand = record { path = None; seen = None; owed = None }

-- path 1 is in deque 0, and all else is empty
abbrev pub opening : ℕ → Core
opening workers = record { deques = (1 ∷ []) ∷ replicate (workers - 1) []; hands = replicate workers empty_hand; word = None; kept = []; closed = [] }

-- the hand has no path and owes nothing
abbrev pub IsIdle : Hand → Type 0
IsIdle h = (h.path ≡ None) × (h.owed ≡ None)

-- the hand with another path, or none
abbrev pub with_path : Hand → Option ℕ → Hand
with_path h path = record { path = path; seen = h.seen; owed = h.owed }

-- the core after worker w's hand became h
abbrev pub with_hand : Core → ℕ → Hand → Core
with_hand c w h = record { deques = c.deques; hands = set c.hands w h; word = c.word; kept = c.kept; closed = c.closed }

-- the core after worker w's deque became d, and worker v's hand became h
abbrev pub with_deque : Core → ℕ → List ℕ → ℕ → Hand → Core
with_deque c w d v h = record { deques = set c.deques w d; hands = set c.hands v h; word = c.word; kept = c.kept; closed = c.closed }

-- the core after worker w closed the path for this cause and its hand became h, with these ranks kept
abbrev pub with_closed : Core → ℕ → Hand → ℕ → Cause → List ℕ → Core
with_closed c w h path why kept = record { deques = c.deques; hands = set c.hands w h; word = c.word; kept = kept; closed = c.closed ++ record { worker = w; path = path; cause = why } ∷ [] }

-- the lesser of a word and a rank
abbrev pub least_of : Option ℕ → ℕ → Option ℕ
least_of None rank = Some rank
least_of (Some word) rank = Some (min word rank)

-- worker w's hand has this path, with this box
pub record Holds (m : Meaning) (c : Core) (w : ℕ) (hand : Hand) (path : ℕ) (box : List Run) : Type 0 where
  pub has_hand : slice_get c.hands w ≡ Some hand
  pub has_path : hand.path ≡ Some path
  pub has_box : box_of m.shape path ≡ Some box

-- w's hand is idle, and its deque is not empty: the last path goes to the hand
pub record Pops (c : Core) (w : ℕ) (new : Core) : Type 0 where
  pub hand : Hand
  pub rest : List ℕ
  pub path : ℕ
  pub has_hand : slice_get c.hands w ≡ Some hand
  pub idle : IsIdle hand
  pub has_deque : slice_get c.deques w ≡ Some (rest ++ path ∷ [])
  pub new_is : new ≡ with_deque c w rest w (with_path hand (Some path))

-- w's hand is idle, and the deque of another worker is not empty: its first path goes to w's hand
pub record Steals (c : Core) (w from : ℕ) (new : Core) : Type 0 where
  pub hand : Hand
  pub rest : List ℕ
  pub path : ℕ
  pub has_hand : slice_get c.hands w ≡ Some hand
  pub idle : IsIdle hand
  pub another : from ≢ w
  pub has_deque : slice_get c.deques from ≡ Some (path ∷ rest)
  pub new_is : new ≡ with_deque c from rest w (with_path hand (Some path))

-- what w saw is the word
pub record Sees (c : Core) (w : ℕ) (new : Core) : Type 0 where
  pub hand : Hand
  pub has_hand : slice_get c.hands w ≡ Some hand
  pub new_is : new ≡ with_hand c w (record { path = hand.path; seen = c.word; owed = hand.owed })

-- the rank that w saw is below the low of its box: the path is closed with that rank
pub record Cuts (m : Meaning) (c : Core) (w : ℕ) (new : Core) : Type 0 where
  pub hand : Hand
  pub path : ℕ
  pub box : List Run
  pub holds : Holds m c w hand path box
  pub rank : ℕ
  pub saw : hand.seen ≡ Some rank
  pub below : rank < low_of m.shape box
  pub new_is : new ≡ with_closed c w (with_path hand None) path (cause.Cut rank) c.kept

-- the verdict on its box is bad: the path is closed with the reason
pub record ClosesBad (m : Meaning) (c : Core) (w : ℕ) (new : Core) : Type 0 where
  pub hand : Hand
  pub path : ℕ
  pub box : List Run
  pub holds : Holds m c w hand path box
  pub reason : Reason
  pub judged : m.verdict box ≡ verdict.Bad reason
  pub new_is : new ≡ with_closed c w (with_path hand None) path (cause.Bad reason) c.kept

-- the verdict on its box is open: the upper half goes to the back of w's deque, and the hand keeps the lower half
pub record Splits (m : Meaning) (c : Core) (w : ℕ) (new : Core) : Type 0 where
  pub hand : Hand
  pub path : ℕ
  pub box : List Run
  pub holds : Holds m c w hand path box
  pub judged : m.verdict box ≡ verdict.Open
  pub deque : List ℕ
  pub has_deque : slice_get c.deques w ≡ Some deque
  pub new_is : new ≡ with_deque c w (deque ++ (2 * path + 1) ∷ []) w (with_path hand (Some (2 * path)))

-- the verdict on its box is legal: the rank of its one choice is kept, the path is closed as a leaf, and w owes the rank
pub record Keeps (m : Meaning) (c : Core) (w : ℕ) (new : Core) : Type 0 where
  pub hand : Hand
  pub path : ℕ
  pub box : List Run
  pub holds : Holds m c w hand path box
  pub judged : m.verdict box ≡ verdict.Legal
  pub rank : ℕ
  pub rank_is : rank ≡ low_of m.shape box
  pub new_is : new ≡ with_closed c w (record { path = None; seen = hand.seen; owed = Some rank }) path (cause.Leaf rank) (c.kept ++ rank ∷ [])

-- w owes a rank: the word becomes the lesser of itself and that rank, and w owes nothing
pub record Offers (c : Core) (w : ℕ) (new : Core) : Type 0 where
  pub hand : Hand
  pub has_hand : slice_get c.hands w ≡ Some hand
  pub rank : ℕ
  pub owes : hand.owed ≡ Some rank
  pub new_is : new ≡ record { deques = c.deques; hands = set c.hands w (record { path = hand.path; seen = hand.seen; owed = None }); word = least_of c.word rank; kept = c.kept; closed = c.closed }

-- the event is possible, and makes the one core the other
abbrev pub Step : Meaning → Core → Event → Core → Type 0
Step m c (event.Pop w) new = Pops c w new
Step m c (event.Steal w from) new = Steals c w from new
Step m c (event.Split w) new = Splits m c w new
Step m c (event.CloseBad w) new = ClosesBad m c w new
Step m c (event.Cut w) new = Cuts m c w new
Step m c (event.Keep w) new = Keeps m c w new
Step m c (event.Offer w) new = Offers c w new
Step m c (event.See w) new = Sees c w new

-- an event is possible where it makes some core of this one
abbrev pub IsPossible : Meaning → Core → Event → Type 0
IsPossible m c e = (new : Core) × Step m c e new

-- what an answer tells of a change: true where it was made, and false where it is not possible and the core is as before
abbrev pub Tells : (Core → Type 0) → Core → Core → Bool → Type 0
Tells Makes old new true = Makes new
Tells Makes old new false = (new ≡ old) × (((after : Core) × Makes after) → ⊥)

-- the same, or memory ran out and the core is as before
abbrev pub Answers : (Core → Type 0) → Core → Core → Result Bool OutOfMemory → Type 0
Answers Makes old new (Ok done) = Tells Makes old new done
Answers Makes old new (Err e) = new ≡ old
