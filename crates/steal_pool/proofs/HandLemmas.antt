-- The next place that is held comes to an empty hand.
use Rattle.std.proofs.Common.{◌≡◌, ℕ, List, [], ◌++◌, Bool, true, false, append-nil, ◌∙◌, subst}
use Rattle.best_word.specs.declared.word.View.{View}
use Rattle.search_api.specs.declared.outcome.Closed.{Closed}
use Rattle.search_api.specs.declared.place.Place.{Place}
use Rattle.search_api.specs.Meaning.{Meaning}
use Rattle.steal_worker.specs.Flows.{Flows, FlowsOn}
use Rattle.steal_worker.specs.Walks.{Walks, in_hand}
use Rattle.steal_worker.proofs.FlowActs.{flow_pop}
use Rattle.steal_worker.proofs.WalkActs.{walks_pop}

-- what a pop of the private end leaves, and puts into the hand
abbrev pub Popped : List Place → List Place → Bool → Place → Type 0
Popped old new more hand = old ≡ new ++ in_hand more hand

pub popped_walks : {J : Type 0} (m : Meaning) (n : ℕ) (v : View J) (old new : List Place) (closed : List Closed) (more : Bool) (hand : Place) → Popped old new more hand → Walks m n [] v old closed → Walks m n (in_hand more hand) v new closed
popped_walks m n v old new closed false hand p w = subst (λ (h : List Place). Walks m n [] v h closed) (p ∙ append-nil new) w
popped_walks m n v old new closed true hand p w = walks_pop m n hand v old new closed p w

pub popped_flows : (m : Meaning) (old new : List Place) (closed : List Closed) (more : Bool) (hand : Place) → Popped old new more hand → FlowsOn m [] old closed (in_hand more hand) new closed
popped_flows m old new closed false hand p came went f = subst (λ (h : List Place). Flows m came went [] h closed) (p ∙ append-nil new) f
popped_flows m old new closed true hand p came went f = flow_pop m hand old new closed p came went f
