-- The open boxes of a worker stay in order.
use Rattle.std.proofs.Common.{◌≡◌, ◌≢◌, ℕ, zero, suc, ◌+◌, ◌-◌, ◌*◌, List, [], ◌∷◌, ◌++◌, ◌⊎◌, inl, inr, set, replicate, Option, Some, None, refl, sym, subst, ap, ◌∙◌, arith}
use Rattle.std.specs.Prelude.{slice_get}
use Rattle.std.specs.Option.{option_to_list}
use Rattle.std.proofs.lemmas.List.{append-nil}
use Rattle.std.proofs.lemmas.Option.{none-some, same_Some}
use Rattle.res_base.proofs.ListLemmas.{each_map, each_push, pairs_prefix, pairs_push}
use Rattle.box_split.proofs.PathLemmas.{path_box}
use Rattle.search_api.specs.Meaning.{Meaning, IsLawful}
use Rattle.serial_search.specs.Going.{IsBefore}
use Rattle.serial_search.proofs.OrderLemmas.{ordered}
use Rattle.search_core.specs.declared.event.Event.{Event}
use Rattle.search_core.specs.declared.event.Event.TheVariants as event
use Rattle.search_core.specs.declared.state.Hand.{Hand}
use Rattle.search_core.specs.declared.state.Core.{Core}
use Rattle.search_core.specs.Events.{Pops, Splits, Steals, Step, empty_hand, opening, with_path}
use Rattle.search_core.specs.Turns.{IsBehind, LowestLast, OwnFirst, RunsOwnFirst, own_paths}
use Rattle.search_core.proofs.ChangeLemmas.{each_get}
use Rattle.search_core.proofs.RunLemmas.{each_alike}

-- what stands at a place after a change at another one, or the same
get_set : {X : Type 0} (xs : List X) (i j : ℕ) (y x : X) → slice_get (set xs i y) j ≡ Some x → ((j ≡ i) × (y ≡ x)) ⊎ ((j ≢ i) × (slice_get xs j ≡ Some x))
get_set [] i j y x e = absurd (none-some x e)
get_set (z ∷ zs) zero zero y x e = inl (refl, same_Some y x e)
get_set (z ∷ zs) zero (suc j) y x e = inr ((λ s. absurd (omega (arith, s))), e)
get_set (z ∷ zs) (suc i) zero y x e = inr ((λ s. absurd (omega (arith, s))), e)
get_set (z ∷ zs) (suc i) (suc j) y x e = elim (get_set zs i j y x e) [
  | inl s ↦ inl (ap suc s.0, s.1)
  | inr d ↦ inr ((λ s. d.0 (omega (arith, s))), d.1)
]

module _ (m : Meaning) where
  abbrev pub Ordered : List ℕ → Hand → Type 0
  Ordered deque hand = LowestLast m.shape (own_paths deque hand)

  -- the open boxes of each worker are in order
  abbrev pub AllOrdered : List (List ℕ) → List Hand → Type 0
  AllOrdered deques hands = (w : ℕ) (deque : List ℕ) (hand : Hand) → slice_get deques w ≡ Some deque → slice_get hands w ≡ Some hand → Ordered deque hand

  free : (deque : List ℕ) (hand : Hand) → hand.path ≡ None → Ordered deque hand → LowestLast m.shape deque
  free deque hand e h = subst (LowestLast m.shape) (append-nil deque) (subst (λ (o : Option ℕ). LowestLast m.shape (deque ++ option_to_list o)) e h)

  freed : (deque : List ℕ) (hand : Hand) → hand.path ≡ None → LowestLast m.shape deque → Ordered deque hand
  freed deque hand e h = subst (λ (o : Option ℕ). LowestLast m.shape (deque ++ option_to_list o)) (sym e) (subst (LowestLast m.shape) (sym (append-nil deque)) h)

  held : (deque : List ℕ) (hand : Hand) (path : ℕ) → hand.path ≡ Some path → Ordered deque hand → LowestLast m.shape (deque ++ path ∷ [])
  held deque hand path e h = subst (λ (o : Option ℕ). LowestLast m.shape (deque ++ option_to_list o)) e h

  same_hand : (deque : List ℕ) (hand new : Hand) → new.path ≡ hand.path → Ordered deque hand → Ordered deque new
  same_hand deque hand new e h = subst (λ (o : Option ℕ). LowestLast m.shape (deque ++ option_to_list o)) (sym e) h

  -- a hand changes
  hand_put : (deques : List (List ℕ)) (hands : List Hand) (w : ℕ) (hand new : Hand) → slice_get hands w ≡ Some hand → ((deque : List ℕ) → Ordered deque hand → Ordered deque new) → AllOrdered deques hands → AllOrdered deques (set hands w new)
  hand_put deques hands w hand new own f h u deque k d e = elim (get_set hands w u new k e) [
    | inl s ↦ subst (Ordered deque) s.1 (f deque (h u deque hand d (subst (λ j. slice_get hands j ≡ Some hand) (sym s.0) own)))
    | inr n ↦ h u deque k d n.1
  ]

  -- a worker's deque and its hand change
  both_put : (deques : List (List ℕ)) (hands : List Hand) (w : ℕ) (deque to : List ℕ) (hand new : Hand) → slice_get deques w ≡ Some deque → slice_get hands w ≡ Some hand → (Ordered deque hand → Ordered to new) → AllOrdered deques hands → AllOrdered (set deques w to) (set hands w new)
  both_put deques hands w deque to hand new at own f h u d k e g = elim (get_set deques w u to d e) [
    | inl s ↦ elim (get_set hands w u new k g) [
      | inl t ↦ subst (λ (x : List ℕ). Ordered x k) s.1 (subst (Ordered to) t.1 (f (h w deque hand at own)))
      | inr n ↦ absurd (n.0 s.0)
    ]
    | inr n ↦ elim (get_set hands w u new k g) [
      | inl t ↦ absurd (n.0 t.0)
      | inr o ↦ h u d k n.1 o.1
    ]
  ]

  pop_keeps : (c new : Core) (w : ℕ) → Pops c w new → AllOrdered c.deques c.hands → AllOrdered new.deques new.hands
  pop_keeps c new w p h = subst (λ (x : Core). AllOrdered x.deques x.hands) (sym p.new_is)
      (both_put c.deques c.hands w (p.rest ++ p.path ∷ []) p.rest p.hand (with_path p.hand (Some p.path)) p.has_deque p.has_hand (λ o. free (p.rest ++ p.path ∷ []) p.hand p.idle.0 o) h)

  split_keeps : IsLawful m → (c new : Core) (w : ℕ) → Splits m c w new → AllOrdered c.deques c.hands → AllOrdered new.deques new.hands
  split_keeps lawful c new w p h =
      let vs = m.shape in
      let R : ℕ → ℕ → Type 0 = λ x y. IsBefore vs y x in
      let low = 2 * p.path in
      let high = 2 * p.path + 1 in
      let is_box = path_box vs p.path p.box lawful.is_shape.positions p.holds.has_box in
      let d = ordered vs p.path p.box p.holds.has_box is_box (lawful.open_has_two p.box is_box p.judged) in
      subst (λ (x : Core). AllOrdered x.deques x.hands) (sym p.new_is)
      (both_put c.deques c.hands w p.deque (p.deque ++ high ∷ []) p.hand (with_path p.hand (Some low)) p.has_deque p.holds.has_hand
      (λ o.
      let r = pairs_prefix R p.deque p.path (held p.deque p.hand p.path p.holds.has_path o) in
      let more = pairs_push R p.deque high r.0 (each_map (λ x. R x p.path) (λ x. R x high) p.deque (λ x b. omega (arith, b, d.last_high)) r.1) in
      pairs_push R (p.deque ++ high ∷ []) low more (each_push (λ x. R x low) p.deque high (each_map (λ x. R x p.path) (λ x. R x low) p.deque (λ x b. omega (arith, b, d.last_high, d.between, d.high_upright)) r.1) d.between)) h)

  steal_keeps : (c new : Core) (w from : ℕ) → Steals c w from new → slice_get c.deques w ≡ Some [] → AllOrdered c.deques c.hands → AllOrdered new.deques new.hands
  steal_keeps c new w from p none h =
      let thief = with_path p.hand (Some p.path) in
      let all : AllOrdered (set c.deques from p.rest) (set c.hands w thief) = λ u d k e g. elim (get_set c.hands w u thief k g) [
        | inl t ↦ elim (get_set c.deques from u p.rest d e) [
          | inl s ↦ absurd (p.another (sym s.0 ∙ t.0))
          | inr n ↦
              let empty : [] ≡ d = same_Some [] d (sym none ∙ subst (λ j. slice_get c.deques j ≡ Some d) t.0 n.1) in
              subst (λ (x : List ℕ). Ordered x k) empty (subst (Ordered []) t.1 (tt, tt))
        ]
        | inr o ↦ elim (get_set c.deques from u p.rest d e) [
          | inl s ↦ subst (λ (x : List ℕ). Ordered x k) s.1 (h u (p.path ∷ p.rest) k (subst (λ j. slice_get c.deques j ≡ Some (p.path ∷ p.rest)) (sym s.0) p.has_deque) o.1).1
          | inr n ↦ h u d k n.1 o.1
        ]
      ] in
      subst (λ (x : Core). AllOrdered x.deques x.hands) (sym p.new_is) all

  -- a hand lets its path go
  let_go : (hand new : Hand) (path : ℕ) → hand.path ≡ Some path → new.path ≡ None → (deque : List ℕ) → Ordered deque hand → Ordered deque new
  let_go hand new path e n deque o = freed deque new n (pairs_prefix (λ x y. IsBefore m.shape y x) deque path (held deque hand path e o)).0

  step_keeps : IsLawful m → (c new : Core) (e : Event) → Step m c e new → OwnFirst c e → AllOrdered c.deques c.hands → AllOrdered new.deques new.hands
  step_keeps lawful c new (event.Pop w) p o h = pop_keeps c new w p h
  step_keeps lawful c new (event.Steal w from) p o h = steal_keeps c new w from p o h
  step_keeps lawful c new (event.Split w) p o h = split_keeps lawful c new w p h
  step_keeps lawful c new (event.CloseBad w) p o h = subst (λ (x : Core). AllOrdered x.deques x.hands) (sym p.new_is) (hand_put c.deques c.hands w p.hand (with_path p.hand None) p.holds.has_hand (let_go p.hand (with_path p.hand None) p.path p.holds.has_path refl) h)
  step_keeps lawful c new (event.Cut w) p o h = subst (λ (x : Core). AllOrdered x.deques x.hands) (sym p.new_is) (hand_put c.deques c.hands w p.hand (with_path p.hand None) p.holds.has_hand (let_go p.hand (with_path p.hand None) p.path p.holds.has_path refl) h)
  step_keeps lawful c new (event.Keep w) p o h = subst (λ (x : Core). AllOrdered x.deques x.hands) (sym p.new_is) (hand_put c.deques c.hands w p.hand (record { path = None; seen = p.hand.seen; owed = Some p.rank }) p.holds.has_hand (let_go p.hand (record { path = None; seen = p.hand.seen; owed = Some p.rank }) p.path p.holds.has_path refl) h)
  step_keeps lawful c new (event.Offer w) p o h = subst (λ (x : Core). AllOrdered x.deques x.hands) (sym p.new_is) (hand_put c.deques c.hands w p.hand (record { path = p.hand.path; seen = p.hand.seen; owed = None }) p.has_hand (λ deque r. r) h)
  step_keeps lawful c new (event.See w) p o h = subst (λ (x : Core). AllOrdered x.deques x.hands) (sym p.new_is) (hand_put c.deques c.hands w p.hand (record { path = p.hand.path; seen = c.word; owed = p.hand.owed }) p.has_hand (λ deque r. r) h)

  run_keeps : IsLawful m → (events : List Event) (c end : Core) → RunsOwnFirst m c events end → AllOrdered c.deques c.hands → AllOrdered end.deques end.hands
  run_keeps lawful [] c end r h = subst (λ (x : Core). AllOrdered x.deques x.hands) (sym r) h
  run_keeps lawful (e ∷ es) c end r h = run_keeps lawful es r.0 end r.3 (elim r.1 [ inl s ↦ step_keeps lawful c r.0 e s r.2 h | inr s ↦ subst (λ (x : Core). AllOrdered x.deques x.hands) (sym s) h ])

  -- a deque of the opening has path 1 alone, or nothing
  first_ordered : (n w : ℕ) (deque : List ℕ) → slice_get ((1 ∷ []) ∷ replicate (n - 1) []) w ≡ Some deque → LowestLast m.shape deque
  first_ordered n zero deque e = subst (LowestLast m.shape) (same_Some (1 ∷ []) deque e) (tt, tt)
  first_ordered n (suc w) deque e = each_get (LowestLast m.shape) (replicate (n - 1) []) w deque (each_alike (LowestLast m.shape) [] (n - 1) tt) e

  opening_ordered : (n : ℕ) → AllOrdered (opening n).deques (opening n).hands
  opening_ordered n w deque hand d k =
      freed deque hand (each_get (λ (x : Hand). x.path ≡ None) (replicate n empty_hand) w hand (each_alike (λ (x : Hand). x.path ≡ None) empty_hand n refl) k) (first_ordered n w deque d)

  pub run_ordered : IsLawful m → (n : ℕ) (events : List Event) (c : Core) → RunsOwnFirst m (opening n) events c → AllOrdered c.deques c.hands
  run_ordered lawful n events c r = run_keeps lawful events (opening n) c r (opening_ordered n)

  -- what a thief takes stands behind all that its owner still has
  pub stolen_behind : (c new : Core) (w from : ℕ) (thief owner : Hand) (path : ℕ) (left : List ℕ) → AllOrdered c.deques c.hands → Steals c w from new → slice_get new.hands w ≡ Some thief → thief.path ≡ Some path → slice_get new.hands from ≡ Some owner → slice_get new.deques from ≡ Some left → IsBehind m.shape path (own_paths left owner)
  stolen_behind c new w from thief owner path left h p at has own there =
      let k = with_path p.hand (Some p.path) in
      let thief_is : k ≡ thief = elim (get_set c.hands w w k thief (ap (λ (x : Core). slice_get x.hands w) (sym p.new_is) ∙ at)) [ inl s ↦ s.1 | inr n ↦ absurd (n.0 refl) ] in
      let path_is : p.path ≡ path = same_Some p.path path (ap (λ (x : Hand). x.path) thief_is ∙ has) in
      let was : slice_get c.hands from ≡ Some owner = elim (get_set c.hands w from k owner (ap (λ (x : Core). slice_get x.hands from) (sym p.new_is) ∙ own)) [ inl s ↦ absurd (p.another s.0) | inr n ↦ n.1 ] in
      let rest_is : p.rest ≡ left = elim (get_set c.deques from from p.rest left (ap (λ (x : Core). slice_get x.deques from) (sym p.new_is) ∙ there)) [ inl s ↦ s.1 | inr n ↦ absurd (n.0 refl) ] in
      subst (λ q. IsBehind m.shape q (own_paths left owner)) path_is (subst (λ (x : List ℕ). IsBehind m.shape p.path (own_paths x owner)) rest_is (h from (p.path ∷ p.rest) owner p.has_deque was).0)
