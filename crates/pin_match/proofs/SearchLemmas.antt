-- The search, step by step.
use Rattle.std.proofs.Common.{◌≡◌, ℕ, ◌+◌, ◌<◌, ◌≤◌, get_or, replicate, is_some, not, Bool, true, false, Option, Some, None, inl, inr, refl, sym, subst, ap, ◌∙◌, arith}
use Rattle.std.proofs.lemmas.List.{length-replicate, get_or-replicate, get_or_past}
use Rattle.pin_match.specs.declared.walk.Walk.{Walk}
use Rattle.pin_match.specs.declared.matching.Match.{Match}
use Rattle.res_base.specs.Sums.{one_if}
use Rattle.pin_match.specs.Assignments.{IsReached}
use Rattle.pin_match.specs.Walks.{IsWalk, Long, Grows, IsHeld, Scanned, Started, Searched, reached_in, place_in, from_in, added}
use Rattle.res_base.specs.VarSet.{IsNext}
use Rattle.pin_match.specs.Pairs.{IsMatch, given_in, owner_in}
use Rattle.res_base.proofs.SumLemmas.{split, le_or, bool_cases, sum_same}
use Rattle.pin_match.proofs.PairLemmas.{ones_sum}
use Rattle.pin_match.proofs.WalkLemmas.{room, added_walk, added_grows, added_reached, added_was}

pub grows_same : (n : ℕ) (w : Walk) → Grows n w w
grows_same n w = record { kept = λ x l e. (e, refl); longer = omega arith; fresh = λ x l e. inl e }

pub grows_on : (n : ℕ) (u v w : Walk) → Grows n u v → Grows n v w → Grows n u w
grows_on n u v w g h = record {
  kept = λ x l e. let p = g.kept x l e in let q = h.kept x l p.0 in (q.0, q.1 ∙ p.1);
  longer = omega (arith, g.longer, h.longer);
  fresh = λ x l e. elim (h.fresh x l e) [
    | inl p ↦ elim (g.fresh x l p) [ inl q ↦ inl q | inr q ↦ inr (omega (arith, q, (h.kept x l p).1)) ]
    | inr p ↦ inr (omega (arith, p, g.longer))
  ];
}

module _ (n : ℕ) (fits : ℕ → ℕ → Bool) (f : ℕ → Option ℕ) where
  held_on : (v w : Walk) (r : ℕ) → Grows n v w → IsHeld n f v r → IsHeld n f w r
  held_on v w r g h = (h.0, h.1, (g.kept h.0 h.1 h.2).0, h.3)

  pub scanned_first : (w : Walk) (v : ℕ) → IsWalk n fits f w → Scanned n fits f w w v 0
  scanned_first w v k = record { is_walk = k; grows = grows_same n w; closed = λ r l. absurd (omega arith) }

  pub scanned_next : (old w new : Walk) (v i : ℕ) → Scanned n fits f old w v i → IsWalk n fits f new → Grows n w new → (fits v i ≡ true → IsHeld n f new i) → Scanned n fits f old new v (i + 1)
  scanned_next old w new v i s k g h = record {
    is_walk = k;
    grows = grows_on n old w new s.grows g;
    closed = λ r l e. elim (split r i) [
      | inl p ↦ subst (λ (x : ℕ). IsHeld n f new x) (sym p) (h (subst (λ (x : ℕ). fits v x ≡ true) p e))
      | inr d ↦ held_on w new r g (s.closed r (omega (arith, l, d)) e)
    ];
  }

  pub scanned_same : (old w : Walk) (v i : ℕ) → Scanned n fits f old w v i → (fits v i ≡ true → IsHeld n f w i) → Scanned n fits f old w v (i + 1)
  scanned_same old w v i s h = scanned_next old w w v i s s.is_walk (grows_same n w) h

  pub searched_next : (m : ℕ) (w new : Walk) (v head : ℕ) → Searched n m fits f w head → head < w.len → v ≡ get_or w.queue head 0 → Scanned n fits f w new v m → Searched n m fits f new (head + 1)
  searched_next m w new v head s l q c = record {
    is_walk = c.is_walk;
    left_out = λ x k e. (c.grows.kept x k (s.left_out x k e)).0;
    closed = λ x r k h e p fit. elim (c.grows.fresh x k e) [
      | inl old ↦
          let same = (c.grows.kept x k old).1 in
          elim (split (place_in w x) head) [
            | inl at ↦
                let here : x ≡ v = sym (ap (λ (i : ℕ). get_or w.queue i 0) (sym at) ∙ (s.is_walk.queued x k old).1) ∙ sym q in
                c.closed r h (subst (λ (y : ℕ). fits y r ≡ true) here fit)
            | inr d ↦ held_on w new r c.grows (s.closed x r k h old (omega (arith, d, p, same)) fit)
          ]
      | inr late ↦ absurd (omega (arith, late, p, l))
    ];
  }

  pub searched_end : (m : ℕ) (w : Walk) (head : ℕ) → Searched n m fits f w head → w.len ≤ head → IsReached n m fits f (reached_in w) (place_in w)
  searched_end m w head s l = record {
    left_out = s.left_out;
    closed = λ v r k h e fit. s.closed v r k h e (omega (arith, (s.is_walk.queued v k e).0, l)) fit;
    back = λ v r k e g. let b = s.is_walk.back v r k e g in (from_in w v, b.0, b.1, b.2, b.3);
  }

  pub len_le : (w : Walk) → IsWalk n fits f w → w.len ≤ n
  len_le w k = omega (arith, k.count)

-- a resource that somebody has
module _ (n m : ℕ) (fits : ℕ → ℕ → Bool) (a : Match) (k : IsMatch n m fits a) (old w : Walk) (v i x : ℕ) (s : Scanned n fits (given_in a) old w v i) (li : i < m) (e : owner_in a i ≡ Some x) where
  pub owner_below : x < n
  owner_below = (k.paired.owned x i li e).0

  pub scanned_old : reached_in w x ≡ true → Scanned n fits (given_in a) old w v (i + 1)
  scanned_old t = let h = k.paired.owned x i li e in scanned_same n fits (given_in a) old w v i s (λ q. (x, h.0, t, h.1))

  -- what the new variable's resource allows
  step : v < n → reached_in old v ≡ true → fits v i ≡ true → (r : ℕ) → given_in a x ≡ Some r → (v < n) × (reached_in w v ≡ true) × (fits v r ≡ true)
  step lv t fit r g =
      let h = k.paired.owned x i li e in
      let q : ◌≡◌ {A = Option ℕ} (Some i) (Some r) = sym h.1 ∙ g in
      let p : i ≡ r = cc in
      (lv, (s.grows.kept v lv t).0, subst (λ (y : ℕ). fits v y ≡ true) p fit)

  pub scanned_new : v < n → reached_in old v ≡ true → fits v i ≡ true → reached_in w x ≡ false → Scanned n fits (given_in a) old (added w x v) v (i + 1)
  scanned_new lv t fit new =
      let h = k.paired.owned x i li e in
      let f = given_in a in
      let walk = added_walk n fits f w s.is_walk x v h.0 new (step lv t fit) in
      let grows = added_grows n fits f w s.is_walk x v h.0 new (step lv t fit) in
      scanned_next n fits f old w (added w x v) v i s walk grows (λ q. (x, h.0, added_reached n fits f w s.is_walk x v h.0 new (step lv t fit), h.1))

  pub scan_room : v < n → reached_in old v ≡ true → fits v i ≡ true → reached_in w x ≡ false → w.len < n
  scan_room lv t fit new = room n fits (given_in a) w s.is_walk x v (k.paired.owned x i li e).0 new (step lv t fit)

-- the first variables
module _ (n : ℕ) (f : ℕ → Option ℕ) (w : Walk) (v : ℕ) (s : Started n f w v) (l : v < n) where
  not_reached : reached_in w v ≡ false
  not_reached = elim (bool_cases (reached_in w v)) [ inl e ↦ absurd (omega (arith, s.below v l e)) | inr e ↦ e ]

  module _ (out : f v ≡ None) where
    no_step : (fits : ℕ → ℕ → Bool) (r : ℕ) → f v ≡ Some r → (v < n) × (reached_in w v ≡ true) × (fits v r ≡ true)
    no_step fits r e = let q : ◌≡◌ {A = Option ℕ} None (Some r) = sym out ∙ e in cc

    pub start_room : w.len < n
    start_room = room n (λ x y. true) f w (s.is_walk (λ x y. true)) v v l not_reached (no_step (λ x y. true))

    pub started_out : Started n f (added w v v) (v + 1)
    started_out =
        let any : ℕ → ℕ → Bool = λ x y. true in
        let g = added_grows n any f w (s.is_walk any) v v l not_reached (no_step any) in
        record {
          is_walk = λ fits. added_walk n fits f w (s.is_walk fits) v v l not_reached (no_step fits);
          left_out = λ x lx k e. elim (split x v) [
            | inl p ↦ subst (λ (y : ℕ). reached_in (added w v v) y ≡ true) (sym p) (added_reached n any f w (s.is_walk any) v v l not_reached (no_step any))
            | inr d ↦ (g.kept x k (s.left_out x (omega (arith, lx, d)) k e)).0
          ];
          below = λ x k e. elim (split x v) [
            | inl p ↦ omega (arith, p)
            | inr d ↦ let old = added_was n any f w (s.is_walk any) v v l not_reached (no_step any) x d e in omega (arith, s.below x k old)
          ];
        }

none_reached : (v : ℕ) → ◌≡◌ {A = Bool} (get_or (replicate 192 false) v false) false
none_reached v = elim (le_or v 192) [ inl l ↦ get_or-replicate 192 v false false l | inr l ↦ get_or_past (replicate 192 false) v false (omega (arith, l, length-replicate 192 false)) ]

never : {A : Type 0} (b : Bool) → b ≡ true → b ≡ false → A
never b e d = let q : true ≡ false = sym e ∙ d in cc

pub started_first : (n : ℕ) (f : ℕ → Option ℕ) (w : Walk) → n ≤ 192 → Long w → w.len ≡ 0 → ((v : ℕ) → reached_in w v ≡ false) → Started n f w 0
started_first n f w few long len none =
    record {
      is_walk = λ fits. record {
        few = few;
        long = long;
        count = omega (arith, len, sum_same n (λ v. one_if (not (reached_in w v))) (λ v. 1) (λ v l. ap (λ b. one_if (not b)) (none v)), ones_sum n);
        queued = λ v l e. never (reached_in w v) e (none v);
        in_queue = λ i l. absurd (omega (arith, l, len));
        back = λ v r l e g. never (reached_in w v) e (none v);
      };
      left_out = λ v l. absurd (omega arith);
      below = λ v l e. never (reached_in w v) e (none v);
    }

pub started_empty : (n : ℕ) (f : ℕ → Option ℕ) → n ≤ 192 → Started n f record { queue = replicate 192 0; len = 0; reached = replicate 192 false; place = replicate 192 0; from = replicate 192 0 } 0
started_empty n f few =
    started_first n f (record { queue = replicate 192 0; len = 0; reached = replicate 192 false; place = replicate 192 0; from = replicate 192 0 }) few
    (record { queue = length-replicate {A = ℕ} 192 0; reached = length-replicate 192 false; place = length-replicate {A = ℕ} 192 0; from = length-replicate {A = ℕ} 192 0 }) refl none_reached

pub searched_first : (n m : ℕ) (fits : ℕ → ℕ → Bool) (f : ℕ → Option ℕ) (w : Walk) → Started n f w n → Searched n m fits f w 0
searched_first n m fits f w s = record { is_walk = s.is_walk fits; left_out = λ v l e. s.left_out v l l e; closed = λ x r l h e p. absurd (omega arith) }

pub none_of : (o : Option ℕ) → is_some o ≡ false → o ≡ None
none_of None h = refl
none_of (Some x) h = cc

-- to the next resource of the set, and past the last one
module _ (n : ℕ) (fits : ℕ → ℕ → Bool) (f : ℕ → Option ℕ) (old w : Walk) (v at : ℕ) (s : Scanned n fits f old w v at) where
  pub scanned_to : (r : ℕ) → IsNext (fits v) at r → Scanned n fits f old w v r
  scanned_to r i = record {
    is_walk = s.is_walk;
    grows = s.grows;
    closed = λ x l e. elim (le_or x at) [ inl q ↦ s.closed x q e | inr q ↦ never (fits v x) e (i.before x q l) ];
  }
