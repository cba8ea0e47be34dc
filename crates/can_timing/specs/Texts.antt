-- What is printed of a bit timing, and of a request that none serves.
use Rattle.std.specs.Prelude.{◌≡◌, ℕ, ◌+◌, ◌*◌, ◌/◌, ◌%◌, List, [], ◌∷◌, ◌++◌, None, codes, decimal, map, nat_lt, if◌then◌else◌}
use Rattle.answers.specs.Said.{answered}
use Rattle.answers.specs.declared.answer.Answer.{Answer}
use Rattle.answers.specs.declared.answer.Status.TheVariants.{Done, NoChoice}
use Rattle.choice_rank.specs.Choices.{rank_of}
use Rattle.choice_rank.specs.Least.{IsLeast, NoneLegal}
use Rattle.refutation.specs.declared.node.Node.{Node}
use Rattle.refutation.specs.Canonical.{IsCanonicalOf}
use Rattle.refutation.specs.Forms.{form_of}
use Rattle.refutation.specs.Spelling.{spelling}
use Rattle.refutation.specs.Trees.{IsAccepted}
use Rattle.search_api.specs.Meaning.{Meaning}
use Rattle.can_timing.specs.declared.request.Request.{Request}
use Rattle.can_timing.specs.declared.timing.Timing.{Timing}
use Rattle.can_timing.specs.Timings.{btr_of, can_shape, quanta, timing_of}
use Rattle.can_timing.specs.Judged.{can_meaning, legal}

-- ---- a word in hexadecimal: 0 to 9, then A to F, the upper half before the lower
unfoldable pub digit : ℕ → ℕ
digit n = if nat_lt n 10 then 48 + n else 55 + n

unfoldable pub digits_2 : ℕ → List ℕ
digits_2 n = digit (n / 16) ∷ digit (n % 16) ∷ []

unfoldable pub digits_4 : ℕ → List ℕ
digits_4 n = digits_2 (n / 256) ++ digits_2 (n % 256)

unfoldable pub digits_8 : ℕ → List ℕ
digits_8 n = digits_4 (n / 65536) ++ digits_4 (n % 65536)

-- ---- lines
unfoldable pub rank_line : ℕ → List ℕ
rank_line rank = codes "rank " ++ decimal rank ++ codes " of 131072" ++ 10 ∷ []

unfoldable pub segments_line : Timing → List ℕ
segments_line t = codes "brp " ++ decimal t.brp ++ codes " bs1 " ++ decimal t.bs1 ++ codes " bs2 " ++ decimal t.bs2 ++ 10 ∷ []

-- the sample point in whole per mille
unfoldable pub point_line : Timing → List ℕ
point_line t = codes "quanta " ++ decimal (quanta t) ++ codes " point " ++ decimal (1000 * (1 + t.bs1) / quanta t) ++ 10 ∷ []

-- the clock in whole hertz
unfoldable pub rate_line : Request → List ℕ
rate_line q = codes "PCLK1 " ++ decimal (q.pclk.num / q.pclk.den) ++ codes " rate " ++ decimal q.rate ++ 10 ∷ []

unfoldable pub btr_line : Timing → List ℕ
btr_line t = codes "BTR 0x" ++ digits_8 (btr_of t) ++ 10 ∷ []

-- a choice that serves a request
unfoldable pub can_text : Request → List ℕ → List ℕ
can_text q c = rank_line (rank_of can_shape c) ++ segments_line (timing_of c) ++ point_line (timing_of c) ++ rate_line q ++ btr_line (timing_of c)

-- ---- what is due
-- the text of the nodes of the canonical tree under no bound, which is accepted
pub record IsRefutation (m : Meaning) (text : List ℕ) : Type 0 where
  pub nodes : List Node
  pub canonical : IsCanonicalOf m None nodes
  pub accepted : IsAccepted m None nodes
  pub text_is : text ≡ spelling None (map form_of nodes)

-- the text of the choice of least rank that serves, or the refutation of all choices
pub data IsDue (q : Request) (a : Answer) : Type 0 where
  found : (c : List ℕ) → IsLeast can_shape (legal q) c → a ≡ answered Done (can_text q c) → IsDue q a
  refuted : (text : List ℕ) → NoneLegal can_shape (legal q) → IsRefutation (can_meaning q) text → a ≡ answered NoChoice text → IsDue q a
