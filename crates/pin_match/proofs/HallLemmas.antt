-- From a closed search to the answer.
use Rattle.std.proofs.Common.{◌≡◌, ◌≢◌, ℕ, zero, suc, ◌+◌, ◌<◌, ◌≤◌, length-set, replicate, set, get_or, Bool, true, false, ◌&&◌, ◌||◌, eqb, cond, Option, Some, None, inl, inr, refl, sym, ap, ◌∙◌, arith}
use Rattle.std.specs.Prelude.{is_some}
use Rattle.std.proofs.lemmas.Bool.Decides.{nat_tests}
use Rattle.std.proofs.lemmas.List.{get_or-set_same, get_or-set_other, length-replicate, get_or-replicate, get_or_past}
use Rattle.pin_match.specs.declared.matching.Match.{Match}
use Rattle.pin_match.specs.declared.walk.Walk.{Walk}
use Rattle.res_base.specs.declared.var_set.VarSet.{VarSet}
use Rattle.res_base.specs.Sums.{sum_below, one_if}
use Rattle.res_base.specs.VarSet.{in_set}
use Rattle.pin_match.specs.Assignments.{CanBeLeftOut, size_of}
use Rattle.pin_match.specs.Assignments.{IsFull}
use Rattle.pin_match.specs.Hall.{IsHall, any_below, is_wanted}
use Rattle.pin_match.specs.Walks.{IsSetOf}
use Rattle.pin_match.specs.Walks.{reached_in, place_in}
use Rattle.pin_match.specs.Pairs.{IsPaired, IsMatch, IsClosed, given_in, owner_in}
use Rattle.res_base.proofs.SumLemmas.{split, le_or, bool_cases, sum_le, sum_lt, sum_same, part_le}
use Rattle.pin_match.proofs.CountLemmas.{inside, users, inside_users, has, some_has, both, and_yes, at_most}
use Rattle.pin_match.proofs.ExchangeLemmas.{exactly}
use Rattle.pin_match.proofs.PairLemmas.{assignment, ones_sum, some_not_none}

impossible : {A : Type 0} (b : Bool) → b ≡ true → b ≡ false → A
impossible b e d = let q : true ≡ false = sym e ∙ d in cc

-- a variable without a resource, where not all have one
lacks_at : (n : ℕ) (f : ℕ → Option ℕ) (o : Option ℕ) → f n ≡ o → size_of (suc n) f < suc n → (size_of n f < n → (v : ℕ) × (v < n) × (f v ≡ None)) → (v : ℕ) × (v < suc n) × (f v ≡ None)
lacks_at n f None e l rest = (n, omega arith, e)
lacks_at n f (Some r) e l rest =
    let one : one_if (is_some (f n)) ≡ 1 = ap (λ q. one_if (is_some q)) e in
    let h = rest (omega (arith, one, l)) in
    (h.0, omega (arith, h.1), h.2)

pub lacks : (n : ℕ) (f : ℕ → Option ℕ) → size_of n f < n → (v : ℕ) × (v < n) × (f v ≡ None)
lacks zero f l = absurd (omega arith)
lacks (suc n) f l = lacks_at n f (f n) refl l (lacks n f)

without : (a b : Bool) → (a || b) ≡ true → b ≡ false → a ≡ true
without true b e d = refl
without false b e d = impossible b e d

pub some_any : (n : ℕ) (p : ℕ → Bool) → any_below n p ≡ true → (v : ℕ) × (v < n) × (p v ≡ true)
some_any zero p e = let q : false ≡ true = e in cc
some_any (suc n) p e = elim (bool_cases (p n)) [
  | inl q ↦ (n, omega arith, q)
  | inr q ↦ let h = some_any n p (without (any_below n p) (p n) e q) in (h.0, omega (arith, h.1), h.2)
]

pub full_size : (n m : ℕ) (fits : ℕ → ℕ → Bool) (full : IsFull n m fits) → size_of n full.0 ≡ n
full_size n m fits full = sum_same n (λ v. one_if (is_some (full.0 v))) (λ v. 1) (λ v l. ap (λ q. one_if (is_some q)) (full.2 v l).1) ∙ ones_sum n

pub part_of : (a b : Bool) → one_if (a && b) ≤ one_if a
part_of true b = at_most b
part_of false b = omega arith

module _ (n m : ℕ) (fits : ℕ → ℕ → Bool) (a : Match) (w : Walk) (k : IsMatch n m fits a) (c : IsClosed n m fits a w) where
  given_at : w.len ≡ 0 → (v : ℕ) → v < n → (o : Option ℕ) → given_in a v ≡ o → (r : ℕ) × (given_in a v ≡ Some r)
  given_at len v l None e = absurd (omega (arith, len, (c.is_walk.queued v l (c.is_reached.left_out v l e)).0))
  given_at len v l (Some r) e = (r, e)

  pub full_of : w.len ≡ 0 → IsFull n m fits
  full_of len = (given_in a, assignment n m fits a k, λ v l. given_at len v l (given_in a v) refl)

  module _ (some : 0 < w.len) (s : VarSet) (is : IsSetOf n w s) where
    -- some largest assignment leaves one out
    out : CanBeLeftOut n m fits (get_or w.queue 0 0)
    out =
        let q = c.is_walk.in_queue 0 some in
        ((exactly n m fits (given_in a) (reached_in w) (place_in w) (assignment n m fits a k) c.is_reached).1 (get_or w.queue 0 0) q.0).0 q.1

    less : size_of n out.0 < n
    less =
        let f = out.0 in
        let q = c.is_walk.in_queue 0 some in
        let zero_at : one_if (is_some (f (get_or w.queue 0 0))) ≡ 0 = ap (λ o. one_if (is_some o)) out.2 in
        omega (arith, sum_lt n (get_or w.queue 0 0) (λ v. one_if (is_some (f v))) (λ v. 1) q.0 (λ v l. at_most (is_some (f v))) (omega (arith, zero_at)), ones_sum n)

    pub not_full : IsFull n m fits → ⊥
    not_full full = absurd (omega (arith, full_size n m fits full, out.1.largest full.0 full.1, less))

    same : (v : ℕ) → v < n → in_set s v ≡ reached_in w v
    same = is.same

    -- the resources of the members are in the hands of members
    wanted_le : (r : ℕ) → r < m → one_if (is_wanted n fits s r) ≤ users n m fits (reached_in w) (given_in a) r
    unfolding users
    wanted_le r l = elim (bool_cases (is_wanted n fits s r)) [
      | inl e ↦
          let v = some_any n (λ v. in_set s v && fits v r) e in
          let p = both (in_set s v.0) (fits v.0 r) v.2 in
          let x = c.is_reached.closed v.0 r v.1 l (sym (same v.0 v.1) ∙ p.0) p.1 in
          let up = part_le n x.0 (λ v. one_if (reached_in w v && has (given_in a v) r)) x.1 in
          let here : one_if (reached_in w x.0 && has (given_in a x.0) r) ≡ 1 = ap one_if (and_yes (reached_in w x.0) (has (given_in a x.0) r) x.2 (some_has (given_in a x.0) r x.3)) in
          omega (arith, up, here, at_most (is_wanted n fits s r))
      | inr e ↦ omega (arith, ap one_if e)
    ]

    inside_less : inside n m fits (reached_in w) (given_in a) < sum_below n (λ v. one_if (in_set s v))
    unfolding inside
    inside_less =
        let f = given_in a in
        let v = lacks n f (omega (arith, less, out.1.largest f (assignment n m fits a k))) in
        let t = c.is_reached.left_out v.0 v.1 v.2 in
        let no : one_if (reached_in w v.0 && is_some (f v.0)) ≡ 0 = rw (t, v.2) refl in
        let one : one_if (reached_in w v.0) ≡ 1 = ap one_if t in
        let count = sum_same n (λ x. one_if (in_set s x)) (λ x. one_if (reached_in w x)) (λ x l. ap one_if (same x l)) in
        let lt = sum_lt n v.0 (λ x. one_if (reached_in w x && is_some (f x))) (λ x. one_if (reached_in w x)) v.1 (λ x l. part_of (reached_in w x) (is_some (f x))) (omega (arith, no, one)) in
        omega (arith, count, lt)

    pub is_hall : IsHall n m fits s
    is_hall = record {
      exact = λ v l. let e = (exactly n m fits (given_in a) (reached_in w) (place_in w) (assignment n m fits a k) c.is_reached).1 v l in (λ t. e.0 (sym (same v l) ∙ t), λ h. same v l ∙ e.1 h);
      below = λ v e. elim (le_or v n) [ inl l ↦ l | inr l ↦ impossible (in_set s v) e (is.none v l) ];
      more = omega (arith, sum_le m (λ r. one_if (is_wanted n fits s r)) (users n m fits (reached_in w) (given_in a)) wanted_le, inside_users n m fits (reached_in w) (given_in a) (assignment n m fits a k), inside_less);
    }

-- the set of what is reached, one more
module _ (w : Walk) (s : VarSet) (i : ℕ) (is : IsSetOf i w s) where
  pub set_skip : reached_in w i ≡ false → IsSetOf (i + 1) w s
  set_skip e = record {
    same = λ x l. elim (split x i) [
      | inl p ↦ is.none x (omega (arith, p)) ∙ sym (ap (reached_in w) p ∙ e)
      | inr d ↦ is.same x (omega (arith, l, d))
    ];
    none = λ x l. is.none x (omega (arith, l));
  }

  pub set_put : (t : VarSet) → reached_in w i ≡ true → ((x : ℕ) → in_set t x ≡ cond (eqb x i) true (in_set s x)) → IsSetOf (i + 1) w t
  set_put t e put = record {
    same = λ x l. elim (split x i) [
      | inl p ↦ let q : eqb x i ≡ true = grind (arith, nat_tests) in put x ∙ ap (λ b. cond b true (in_set s x)) q ∙ sym (ap (reached_in w) p ∙ e)
      | inr d ↦ let q : eqb x i ≡ false = grind (arith, nat_tests) in put x ∙ ap (λ b. cond b true (in_set s x)) q ∙ is.same x (omega (arith, l, d))
    ];
    none = λ x l. let q : eqb x i ≡ false = grind (arith, nat_tests) in put x ∙ ap (λ b. cond b true (in_set s x)) q ∙ is.none x (omega (arith, l));
  }

-- what a variable has, taken away
module _ (n m : ℕ) (a : Match) (k : IsPaired n m a) (v r : ℕ) (lv : v < n) (e : given_in a v ≡ Some r) where
  pub lost_given : (x : ℕ) → x ≢ v → get_or (set a.given v None) x None ≡ given_in a x
  lost_given x d = get_or-set_other a.given v x None None d

  lost_none : (x : ℕ) → x ≡ v → get_or (set a.given v None) x None ≡ None
  lost_none x p = rw p (get_or-set_same a.given v None None (omega (arith, k.given_long, k.few, lv)))

  back : (x y : ℕ) → x < n → get_or (set a.given v None) x None ≡ Some y → (y < m) × (get_or (set a.owner r None) y None ≡ Some x)
  back x y l g = elim (split x v) [
    | inl p ↦ some_not_none (get_or (set a.given v None) x None) y g (lost_none x p)
    | inr d ↦
        let h = k.given x y l (sym (lost_given x d) ∙ g) in
        let other : y ≢ r = λ p. let q : ◌≡◌ {A = Option ℕ} (Some x) (Some v) = sym h.1 ∙ (ap (owner_in a) p ∙ (k.given v r lv e).1) in let same : x ≡ v = cc in d same in
        (h.0, get_or-set_other a.owner r y None None other ∙ h.1)
  ]

  owned : (x y : ℕ) → y < m → get_or (set a.owner r None) y None ≡ Some x → (x < n) × (get_or (set a.given v None) x None ≡ Some y)
  owned x y l g = elim (split y r) [
    | inl p ↦ some_not_none (get_or (set a.owner r None) y None) x g (rw p (get_or-set_same a.owner r None None (omega (arith, k.owner_long, k.few_resources, (k.given v r lv e).0))))
    | inr d ↦
        let h = k.owned x y l (sym (get_or-set_other a.owner r y None None d) ∙ g) in
        let other : x ≢ v = λ p. let q : ◌≡◌ {A = Option ℕ} (Some y) (Some r) = sym h.1 ∙ (ap (given_in a) p ∙ e) in let same : y ≡ r = cc in d same in
        (h.0, lost_given x other ∙ h.1)
  ]

  pub lost_paired : IsPaired n m record { given = set a.given v None; owner = set a.owner r None }
  lost_paired = record {
    few = k.few;
    few_resources = k.few_resources;
    given_long = rw length-set k.given_long;
    owner_long = rw length-set k.owner_long;
    given = back;
    owned = owned;
  }

  -- what stays fits
  pub lost_fits : (fits : ℕ → ℕ → Bool) → ((x y : ℕ) → x < v → x < n → given_in a x ≡ Some y → fits x y ≡ true) → (x y : ℕ) → x < v + 1 → x < n → get_or (set a.given v None) x None ≡ Some y → fits x y ≡ true
  lost_fits fits h x y lx l g = elim (split x v) [
    | inl p ↦ some_not_none (get_or (set a.given v None) x None) y g (lost_none x p)
    | inr d ↦ h x y (omega (arith, lx, d)) l (sym (lost_given x d) ∙ g)
  ]

none_given : (v : ℕ) → ◌≡◌ {A = Option ℕ} (get_or (replicate 192 None) v None) None
none_given v = elim (le_or v 192) [ inl l ↦ get_or-replicate 192 v None None l | inr l ↦ get_or_past (replicate 192 None) v None (omega (arith, l, length-replicate {A = Option ℕ} 192 None)) ]

pub none_paired : (n m : ℕ) → n ≤ 192 → m ≤ 192 → IsPaired n m record { given = replicate 192 None; owner = replicate 192 None }
none_paired n m ln lm = record {
  few = ln;
  few_resources = lm;
  given_long = length-replicate {A = Option ℕ} 192 None;
  owner_long = length-replicate {A = Option ℕ} 192 None;
  given = λ v r l e. some_not_none (get_or (replicate 192 None) v None) r e (none_given v);
  owned = λ v r l e. some_not_none (get_or (replicate 192 None) r None) v e (none_given r);
}
