-- Each act of a worker accounts for the paths that came to it.
use Rattle.std.proofs.Common.{◌≡◌, ℕ, ◌+◌, ◌*◌, List, [], ◌∷◌, ◌++◌, Bool, Some, None, true, false, sym, refl, ap, ◌∙◌, subst, arith}
use Rattle.res_base.specs.Lists.{total}
use Rattle.res_base.proofs.ListLemmas.{total_snoc, total_append}
use Rattle.box_split.specs.Boxes.{Run, is_single}
use Rattle.box_split.specs.Paths.{box_of, covers}
use Rattle.box_split.proofs.LawLemmas.{covers_none}
use Rattle.box_split.proofs.RunLemmas.{halves_count}
use Rattle.search_api.specs.declared.verdict.Verdict.TheVariants as verdict
use Rattle.search_api.specs.declared.outcome.Closed.{Closed}
use Rattle.search_api.specs.declared.place.Place.{Place}
use Rattle.search_api.specs.Meaning.{Meaning}
use Rattle.search_api.specs.Places.{paths_of}
use Rattle.steal_worker.specs.Flows.{weight_at, weight_closed, Flows, FlowsOn}
use Rattle.steal_worker.specs.Walks.{Halved, in_hand, IsFound}

pub paths_weight : (h : ℕ → ℕ) (places : List Place) → total h (paths_of places) ≡ weight_at h places
paths_weight h [] = refl
paths_weight h (p ∷ ps) = ap (λ n. h p.path + n) (paths_weight h ps)

module _ (m : Meaning) where
  pub flow_close : (p : Place) (held : List Place) (closed new : List Closed) (e : Closed) → e.path ≡ p.path → new ≡ closed ++ e ∷ [] → FlowsOn m (p ∷ []) held closed [] held new
  flow_close p held closed new e same is came went f = record {
    balance = λ choice.
        let a : weight_closed (λ q. covers m.shape q choice) new ≡ weight_closed (λ q. covers m.shape q choice) closed + covers m.shape e.path choice = ap (weight_closed (λ q. covers m.shape q choice)) is ∙ total_snoc (λ (x : Closed). covers m.shape x.path choice) closed e in
        let b : covers m.shape e.path choice ≡ covers m.shape p.path choice = ap (λ q. covers m.shape q choice) same in
        let c = f.balance choice in omega (arith, a, b, c);
    sourced = λ h g hh hg one none.
        let s = f.sourced h g hh hg one none in
        let a : weight_closed h new ≡ weight_closed h closed + h e.path = ap (weight_closed h) is ∙ total_snoc (λ (x : Closed). h x.path) closed e in
        let b : h e.path ≡ h p.path = ap h same in
        let c = s.in_hand in let d = s.in_closed in
        record { went_on = s.went_on; in_hand = refl; in_held = s.in_held; halves_held = s.halves_held; in_closed = omega (arith, a, b, c, d) };
  }

  pub flow_halve : (p lower : Place) (box : List Run) (held new : List Place) (closed : List Closed) → box_of m.shape p.path ≡ Some box → is_single box ≡ false → m.verdict box ≡ verdict.Open → Halved m.shape p lower held new → FlowsOn m (p ∷ []) held closed (lower ∷ []) new closed
  flow_halve p lower box held new closed at two wide s came went f = record {
    balance = λ choice.
        let k : ℕ → ℕ = λ q. covers m.shape q choice in
        let a : weight_at k new ≡ weight_at k held + k s.upper.path = ap (weight_at k) s.pushed ∙ total_snoc (λ (x : Place). k x.path) held s.upper in
        let b : k s.upper.path ≡ k (2 * p.path + 1) = ap k s.upper_path in
        let c : k lower.path ≡ k (2 * p.path) = ap k s.lower_path in
        let d : k (2 * p.path) + k (2 * p.path + 1) ≡ k p.path = halves_count m.shape p.path box at two choice in
        let i = f.balance choice in omega (arith, a, b, c, d, i);
    sourced = λ h g hh hg one none.
        let w = f.sourced h g hh hg one none in
        let z : h p.path ≡ 0 = (let i = w.in_hand in omega (arith, i)) in
        let hs = hh p.path box at wide z in let gs = hg p.path box at wide z in
        let a : weight_at h new ≡ weight_at h held + h s.upper.path = ap (weight_at h) s.pushed ∙ total_snoc (λ (x : Place). h x.path) held s.upper in
        let b : weight_at g new ≡ weight_at g held + g s.upper.path = ap (weight_at g) s.pushed ∙ total_snoc (λ (x : Place). g x.path) held s.upper in
        let c : h s.upper.path ≡ 0 = ap h s.upper_path ∙ hs.1 in let d : g s.upper.path ≡ 0 = ap g s.upper_path ∙ gs.1 in
        let l : h lower.path ≡ 0 = ap h s.lower_path ∙ hs.0 in
        let i = w.in_held in let j = w.halves_held in
        record { went_on = w.went_on; in_hand = omega (arith, l); in_held = omega (arith, a, c, i); halves_held = omega (arith, b, d, j); in_closed = w.in_closed };
  }

  pub flow_pop : (p : Place) (old held : List Place) (closed : List Closed) → old ≡ held ++ p ∷ [] → FlowsOn m [] old closed (p ∷ []) held closed
  flow_pop p old held closed is came went f = record {
    balance = λ choice.
        let k : ℕ → ℕ = λ q. covers m.shape q choice in
        let a : weight_at k old ≡ weight_at k held + k p.path = ap (weight_at k) is ∙ total_snoc (λ (x : Place). k x.path) held p in
        let i = f.balance choice in omega (arith, a, i);
    sourced = λ h g hh hg one none.
        let w = f.sourced h g hh hg one none in
        let a : weight_at h old ≡ weight_at h held + h p.path = ap (weight_at h) is ∙ total_snoc (λ (x : Place). h x.path) held p in
        let b : weight_at g old ≡ weight_at g held + g p.path = ap (weight_at g) is ∙ total_snoc (λ (x : Place). g x.path) held p in
        let i = w.in_held in let j = w.halves_held in
        record { went_on = w.went_on; in_hand = omega (arith, a, i); in_held = omega (arith, a, i); halves_held = omega (arith, b, j); in_closed = w.in_closed };
  }

  module _ (came new_came went new_went : (ℕ → ℕ) → ℕ) where
    -- a path came
    pub flow_take : (p : Place) (held : List Place) (closed : List Closed) → ((h : ℕ → ℕ) → new_came h ≡ came h + h p.path) → ((h : ℕ → ℕ) → new_went h ≡ went h) → Flows m came went [] held closed → Flows m new_came new_went (p ∷ []) held closed
    flow_take p held closed more same f = record {
      balance = λ choice.
          let k : ℕ → ℕ = λ q. covers m.shape q choice in
          let a = more k in let b = same k in let i = f.balance choice in omega (arith, a, b, i);
      sourced = λ h g hh hg one none.
          let a = more h in
          let w = f.sourced h g hh hg one (omega (arith, a, none)) in
          let b = same g in let c = w.went_on in
          record { went_on = omega (arith, b, c); in_hand = omega (arith, a, none); in_held = w.in_held; halves_held = w.halves_held; in_closed = w.in_closed };
    }

    -- a number came that is no path
    pub flow_lose : (x : ℕ) (held : List Place) (closed : List Closed) → box_of m.shape x ≡ None → ((h : ℕ → ℕ) → new_came h ≡ came h + h x) → ((h : ℕ → ℕ) → new_went h ≡ went h) → Flows m came went [] held closed → Flows m new_came new_went [] held closed
    flow_lose x held closed no_box more same f = record {
      balance = λ choice.
          let k : ℕ → ℕ = λ q. covers m.shape q choice in
          let a = more k in let b = same k in let z : k x ≡ 0 = covers_none m.shape x choice no_box in let i = f.balance choice in omega (arith, a, b, z, i);
      sourced = λ h g hh hg one none.
          let a = more h in
          let w = f.sourced h g hh hg one (omega (arith, a, none)) in
          let b = same g in let c = w.went_on in
          record { went_on = omega (arith, b, c); in_hand = refl; in_held = w.in_held; halves_held = w.halves_held; in_closed = w.in_closed };
    }

    -- nothing came, and the same went
    pub flow_same : (held : List Place) (hand : List Place) (closed : List Closed) → ((h : ℕ → ℕ) → new_came h ≡ came h) → ((h : ℕ → ℕ) → new_went h ≡ went h) → Flows m came went hand held closed → Flows m new_came new_went hand held closed
    flow_same held hand closed more same f = record {
      balance = λ choice.
          let k : ℕ → ℕ = λ q. covers m.shape q choice in
          let a = more k in let b = same k in let i = f.balance choice in omega (arith, a, b, i);
      sourced = λ h g hh hg one none.
          let a = more h in
          let w = f.sourced h g hh hg one (omega (arith, a, none)) in
          let b = same g in let c = w.went_on in
          record { went_on = omega (arith, b, c); in_hand = w.in_hand; in_held = w.in_held; halves_held = w.halves_held; in_closed = w.in_closed };
    }

    -- places went into the deque
    pub flow_share : (hand gone old held : List Place) (closed : List Closed) → old ≡ gone ++ held → ((h : ℕ → ℕ) → new_came h ≡ came h) → ((h : ℕ → ℕ) → new_went h ≡ went h + weight_at h gone) → Flows m came went hand old closed → Flows m new_came new_went hand held closed
    flow_share hand gone old held closed is more less f = record {
      balance = λ choice.
          let k : ℕ → ℕ = λ q. covers m.shape q choice in
          let a = more k in let b = less k in
          let c : weight_at k old ≡ weight_at k gone + weight_at k held = ap (weight_at k) is ∙ total_append (λ (x : Place). k x.path) gone held in
          let i = f.balance choice in omega (arith, a, b, c, i);
      sourced = λ h g hh hg one none.
          let a = more h in
          let w = f.sourced h g hh hg one (omega (arith, a, none)) in
          let b = less g in
          let c : weight_at h old ≡ weight_at h gone + weight_at h held = ap (weight_at h) is ∙ total_append (λ (x : Place). h x.path) gone held in
          let d : weight_at g old ≡ weight_at g gone + weight_at g held = ap (weight_at g) is ∙ total_append (λ (x : Place). g x.path) gone held in
          let i = w.went_on in let j = w.in_held in let l = w.halves_held in
          record { went_on = omega (arith, b, d, i, l); in_hand = w.in_hand; in_held = omega (arith, c, j); halves_held = omega (arith, d, l); in_closed = w.in_closed };
    }

    -- what an empty hand found, if it is a path
    pub flow_found : (x : ℕ) (r : Bool) (p : Place) (held : List Place) (closed : List Closed) → IsFound m.shape x r p → ((h : ℕ → ℕ) → new_came h ≡ came h + h x) → ((h : ℕ → ℕ) → new_went h ≡ went h) → Flows m came went [] held closed → Flows m new_came new_went (in_hand r p) held closed
    flow_found x false p held closed f more same k = flow_lose x held closed f more same k
    flow_found x true p held closed f more same k = flow_take p held closed (λ h. more h ∙ ap (λ n. came h + n) (ap h (sym f.0))) same k

  pub flows_same : (hand held new_hand new_hand' new_held new_held' : List Place) (closed new_closed : List Closed) → new_hand' ≡ new_hand → new_held' ≡ new_held → FlowsOn m hand held closed new_hand new_held new_closed → FlowsOn m hand held closed new_hand' new_held' new_closed
  flows_same hand held new_hand new_hand' new_held new_held' closed new_closed eh ep f came went k =
      subst (λ (x : List Place). Flows m came went x new_held' new_closed) (sym eh) (subst (λ (x : List Place). Flows m came went new_hand x new_closed) (sym ep) (f came went k))
