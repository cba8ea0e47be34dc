-- Internal: where paths go: those that came to a worker are closed, went on to others, or are still there.
use Rattle.std.specs.Prelude.{◌≡◌, ℕ, ◌+◌, ◌*◌, List, Some}
use Rattle.res_base.specs.Lists.{total}
use Rattle.box_split.specs.Boxes.{Run}
use Rattle.box_split.specs.Paths.{box_of, covers}
use Rattle.search_api.specs.declared.verdict.Verdict.TheVariants as verdict
use Rattle.search_api.specs.declared.outcome.Closed.{Closed}
use Rattle.search_api.specs.declared.place.Place.{Place}
use Rattle.search_api.specs.Meaning.{Meaning}

-- how much places weigh together, and closed boxes, where h weighs a path
abbrev pub weight_at : (ℕ → ℕ) → List Place → ℕ
weight_at h places = total (λ (p : Place). h p.path) places

abbrev pub weight_closed : (ℕ → ℕ) → List Closed → ℕ
weight_closed h closed = total (λ (e : Closed). h e.path) closed

-- where an open box weighs nothing by h, its halves weigh nothing by g
abbrev pub PassesOn : Meaning → (ℕ → ℕ) → (ℕ → ℕ) → Type 0
PassesOn m h g = (path : ℕ) (box : List Run) → box_of m.shape path ≡ Some box → m.verdict box ≡ verdict.Open → h path ≡ 0 → (g (2 * path) ≡ 0) × (g (2 * path + 1) ≡ 0)

-- what weighs nothing by h and by g, where what came weighs nothing by h
pub record WeighNothing (h g : ℕ → ℕ) (went : (ℕ → ℕ) → ℕ) (hand held : List Place) (closed : List Closed) : Type 0 where
  pub went_on : went g ≡ 0
  pub in_hand : weight_at h hand ≡ 0
  pub in_held : weight_at h held ≡ 0
  pub halves_held : weight_at g held ≡ 0
  pub in_closed : weight_closed h closed ≡ 0

-- came and went tell how much came and went by each weight
pub record Flows (m : Meaning) (came went : (ℕ → ℕ) → ℕ) (hand held : List Place) (closed : List Closed) : Type 0 where
  -- what came covers each choice as often as what went, is there or was closed
  pub balance : (choice : List ℕ) → came (λ p. covers m.shape p choice) ≡ went (λ p. covers m.shape p choice) + weight_at (λ p. covers m.shape p choice) hand + weight_at (λ p. covers m.shape p choice) held + weight_closed (λ p. covers m.shape p choice) closed
  -- what went, is there or was closed came so, or by halving open boxes; what went is path 1 or came by halving
  pub sourced : (h g : ℕ → ℕ) → PassesOn m h h → PassesOn m h g → g 1 ≡ 0 → came h ≡ 0 → WeighNothing h g went hand held closed

-- one step: whatever came and went before, it accounts for what there was by what there is
abbrev pub FlowsOn : Meaning → List Place → List Place → List Closed → List Place → List Place → List Closed → Type 0
FlowsOn m hand held closed new_hand new_held new_closed = (came went : (ℕ → ℕ) → ℕ) → Flows m came went hand held closed → Flows m came went new_hand new_held new_closed
