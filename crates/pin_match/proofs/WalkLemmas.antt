-- One more variable keeps a walk.
use Rattle.std.proofs.Common.{◌≡◌, ◌≢◌, ℕ, ◌+◌, ◌<◌, ◌≤◌, List, length, length-set, set, get_or, Bool, true, false, not, eqb, cond, Option, Some, ◌⊎◌, inl, inr, refl, sym, ap, ◌∙◌, arith}
use Rattle.std.proofs.lemmas.Bool.Decides.{nat_tests}
use Rattle.std.proofs.lemmas.List.{get_or-set_same, get_or-set_other}
use Rattle.pin_match.specs.declared.walk.Walk.{Walk}
use Rattle.res_base.specs.Sums.{sum_below, one_if}
use Rattle.pin_match.specs.Walks.{IsWalk, Grows, reached_in, place_in, added}
use Rattle.res_base.proofs.SumLemmas.{split, sum_same, sum_put, part_le}

-- an element after a write
pub wrote : {X : Type 0} (xs : List X) (i j : ℕ) (x d : X) → i < length xs → get_or (set xs i x) j d ≡ cond (eqb j i) x (get_or xs j d)
wrote xs i j x d l = elim (split j i) [
  | inl e ↦ let t : eqb j i ≡ true = grind (arith, nat_tests) in rw (t, e) (get_or-set_same xs i x d l)
  | inr n ↦ let t : eqb j i ≡ false = grind (arith, nat_tests) in rw t (get_or-set_other xs i j x d n)
]

or_old : (a b : Bool) → b ≡ true → cond a true b ≡ true
or_old true b e = refl
or_old false b e = e

counted : (a b : Bool) → one_if (not (cond a true b)) ≡ cond a 0 (one_if (not b))
counted true b = refl
counted false b = refl

module _ (n : ℕ) (fits : ℕ → ℕ → Bool) (f : ℕ → Option ℕ) (w : Walk) (k : IsWalk n fits f w) (v u : ℕ) (lv : v < n) (new : reached_in w v ≡ false) (s : (r : ℕ) → f v ≡ Some r → (u < n) × (reached_in w u ≡ true) × (fits u r ≡ true)) where
  -- there is room
  pub room : w.len < n
  room =
      let p = part_le n v (λ x. one_if (not (reached_in w x))) lv in
      let o : one_if (not (reached_in w v)) ≡ 1 = ap (λ b. one_if (not b)) new in
      omega (arith, p, o, k.count)

  is_reached : (x : ℕ) → reached_in (added w v u) x ≡ cond (eqb x v) true (reached_in w x)
  is_reached x = wrote w.reached v x true false (omega (arith, k.long.reached, k.few))

  place_is : (x : ℕ) → place_in (added w v u) x ≡ cond (eqb x v) w.len (place_in w x)
  place_is x = wrote w.place v x w.len 0 (omega (arith, k.long.place, k.few))

  from_is : (x : ℕ) → get_or (set w.from v u) x 0 ≡ cond (eqb x v) u (get_or w.from x 0)
  from_is x = wrote w.from v x u 0 (omega (arith, k.long.from, k.few))

  queue_is : (i : ℕ) → get_or (set w.queue w.len v) i 0 ≡ cond (eqb i w.len) v (get_or w.queue i 0)
  queue_is i = wrote w.queue w.len i v 0 (omega (arith, k.long.queue, k.few, room))

  still : (x : ℕ) → reached_in w x ≡ true → reached_in (added w v u) x ≡ true
  still x e = is_reached x ∙ or_old (eqb x v) (reached_in w x) e

  -- the new variable, and any other
  at_new : (x : ℕ) → x ≡ v → eqb x v ≡ true
  at_new x e = grind (arith, nat_tests)

  at_other : (x : ℕ) → x ≢ v → eqb x v ≡ false
  at_other x e = grind (arith, nat_tests)

  was : (x : ℕ) → x ≢ v → reached_in (added w v u) x ≡ true → reached_in w x ≡ true
  was x d e = sym (is_reached x ∙ ap (λ b. cond b true (reached_in w x)) (at_other x d)) ∙ e

  not_new : (x : ℕ) → reached_in w x ≡ true → x ≢ v
  not_new x e p = let q : true ≡ false = sym e ∙ (ap (reached_in w) p ∙ new) in cc

  same_place : (x : ℕ) → x ≢ v → place_in (added w v u) x ≡ place_in w x
  same_place x d = place_is x ∙ ap (λ b. cond b w.len (place_in w x)) (at_other x d)

  new_place : (x : ℕ) → x ≡ v → place_in (added w v u) x ≡ w.len
  new_place x e = place_is x ∙ ap (λ b. cond b w.len (place_in w x)) (at_new x e)

  count_after : w.len + 1 + sum_below n (λ x. one_if (not (reached_in (added w v u) x))) ≡ n
  count_after =
      let b : ℕ → ℕ = λ x. one_if (not (reached_in w x)) in
      let same = sum_same n (λ x. one_if (not (reached_in (added w v u) x))) (λ x. cond (eqb x v) 0 (b x)) (λ x l. ap (λ r. one_if (not r)) (is_reached x) ∙ counted (eqb x v) (reached_in w x)) in
      let put = sum_put n v 0 b lv in
      let bv : b v ≡ 1 = ap (λ r. one_if (not r)) new in
      omega (arith, k.count, same, put, bv)

  queued_after : (x : ℕ) → x < n → reached_in (added w v u) x ≡ true → (place_in (added w v u) x < w.len + 1) × (get_or (set w.queue w.len v) (place_in (added w v u) x) 0 ≡ x)
  queued_after x l e = elim (split x v) [
    | inl p ↦
        let at = new_place x p in
        let here : eqb (place_in (added w v u) x) w.len ≡ true = grind (arith, nat_tests, at) in
        (omega (arith, at), queue_is (place_in (added w v u) x) ∙ ap (λ b. cond b v (get_or w.queue (place_in (added w v u) x) 0)) here ∙ sym p)
    | inr d ↦
        let q = k.queued x l (was x d e) in
        let at = same_place x d in
        let there : eqb (place_in (added w v u) x) w.len ≡ false = grind (arith, nat_tests, at, q.0) in
        (omega (arith, at, q.0), queue_is (place_in (added w v u) x) ∙ ap (λ b. cond b v (get_or w.queue (place_in (added w v u) x) 0)) there ∙ ap (λ i. get_or w.queue i 0) at ∙ q.1)
  ]

  in_queue_after : (i : ℕ) → i < w.len + 1 → (get_or (set w.queue w.len v) i 0 < n) × (reached_in (added w v u) (get_or (set w.queue w.len v) i 0) ≡ true)
  in_queue_after i l = elim (split i w.len) [
    | inl p ↦
        let here : eqb i w.len ≡ true = grind (arith, nat_tests, p) in
        let e : get_or (set w.queue w.len v) i 0 ≡ v = queue_is i ∙ ap (λ b. cond b v (get_or w.queue i 0)) here in
        (omega (arith, e), ap (reached_in (added w v u)) e ∙ (is_reached v ∙ ap (λ b. cond b true (reached_in w v)) (at_new v refl)))
    | inr d ↦
        let there : eqb i w.len ≡ false = grind (arith, nat_tests, d) in
        let q = k.in_queue i (omega (arith, d)) in
        let e : get_or (set w.queue w.len v) i 0 ≡ get_or w.queue i 0 = queue_is i ∙ ap (λ b. cond b v (get_or w.queue i 0)) there in
        (omega (arith, e, q.0), ap (reached_in (added w v u)) e ∙ still (get_or w.queue i 0) q.1)
  ]

  back_after : (x r : ℕ) → x < n → reached_in (added w v u) x ≡ true → f x ≡ Some r → (get_or (set w.from v u) x 0 < n) × (reached_in (added w v u) (get_or (set w.from v u) x 0) ≡ true) × (fits (get_or (set w.from v u) x 0) r ≡ true) × (place_in (added w v u) (get_or (set w.from v u) x 0) < place_in (added w v u) x)
  back_after x r l e a = elim (split x v) [
    | inl p ↦
        let b : get_or (set w.from v u) x 0 ≡ u = from_is x ∙ ap (λ t. cond t u (get_or w.from x 0)) (at_new x p) in
        let h = s r (ap f (sym p) ∙ a) in
        let pu = same_place u (not_new u h.1) in
        let qu = k.queued u h.0 h.1 in
        (omega (arith, b, h.0), ap (reached_in (added w v u)) b ∙ still u h.1, ap (λ y. fits y r) b ∙ h.2, omega (arith, ap (place_in (added w v u)) b, pu, qu.0, new_place x p))
    | inr d ↦
        let o = k.back x r l (was x d e) a in
        let y = get_or w.from x 0 in
        let b : get_or (set w.from v u) x 0 ≡ y = from_is x ∙ ap (λ t. cond t u y) (at_other x d) in
        (omega (arith, b, o.0), ap (reached_in (added w v u)) b ∙ still y o.1, ap (λ z. fits z r) b ∙ o.2, omega (arith, ap (place_in (added w v u)) b, same_place y (not_new y o.1), same_place x d, o.3))
  ]

  pub added_walk : IsWalk n fits f (added w v u)
  added_walk = record {
    few = k.few;
    long = record {
      queue = rw length-set k.long.queue;
      reached = rw length-set k.long.reached;
      place = rw length-set k.long.place;
      from = rw length-set k.long.from;
    };
    count = count_after;
    queued = queued_after;
    in_queue = in_queue_after;
    back = back_after;
  }

  pub added_reached : reached_in (added w v u) v ≡ true
  added_reached = is_reached v ∙ ap (λ b. cond b true (reached_in w v)) (at_new v refl)

  pub added_kept : (x : ℕ) → reached_in w x ≡ true → reached_in (added w v u) x ≡ true
  added_kept = still

  pub added_was : (x : ℕ) → x ≢ v → reached_in (added w v u) x ≡ true → reached_in w x ≡ true
  added_was = was

  fresh : (x : ℕ) → x < n → reached_in (added w v u) x ≡ true → (reached_in w x ≡ true) ⊎ (w.len ≤ place_in (added w v u) x)
  fresh x l e = elim (split x v) [
    | inl p ↦ inr (omega (arith, new_place x p))
    | inr d ↦ inl (was x d e)
  ]

  pub added_grows : Grows n w (added w v u)
  added_grows = record {
    kept = λ x l e. (still x e, same_place x (not_new x e));
    longer = omega arith;
    fresh = fresh;
  }
