-- That what is computed is more than its resources, from assignments alone.
use Rattle.std.proofs.Common.{◌≡◌, ◌≢◌, ◌⊎◌, ℕ, zero, suc, ◌+◌, ◌<◌, ◌≤◌, Bool, true, false, ◌&&◌, not, cond, eqb, Option, Some, None, inl, inr, refl, sym, ap, subst, ◌∙◌, arith}
use Rattle.std.specs.Prelude.{is_some, nat_lt, ◌==◌}
use Rattle.std.proofs.lemmas.Bool.Decides.{nat_tests}
use Rattle.res_base.specs.declared.var_set.VarSet.{VarSet}
use Rattle.res_base.specs.Sums.{sum_below, one_if}
use Rattle.res_base.specs.VarSet.{in_set}
use Rattle.res_base.proofs.SumLemmas.{split, le_or, bool_cases, sum_same, sum_le, sum_lt, sum_put, part_le}
use Rattle.pin_match.specs.Assignments.{IsAssignment, IsLargest, CanBeLeftOut, IsFull, size_of}
use Rattle.pin_match.specs.Hall.{IsHall, is_wanted}
use Rattle.pin_match.specs.Largest.{most, emptied, is_left_out, set_where, hall_of}
use Rattle.pin_match.proofs.CountLemmas.{inside, users, inside_users, has, some_has, both, and_yes, at_most}
use Rattle.pin_match.proofs.ExchangeLemmas.{handed, handed_u, handed_v, handed_other, handed_cases, handed_ok, handed_size}
use Rattle.pin_match.proofs.HallLemmas.{lacks, some_any, part_of}
use Rattle.pin_match.proofs.LargestLemmas.{most_attained, most_upper, left_out_is, serves_all}
use Rattle.pin_match.proofs.PairLemmas.{same_or, some_not_none, ones_sum}
use Rattle.pin_match.proofs.WordLemmas.{set_test, in_words}

-- who has the resource, if anyone
owned : (n : ℕ) (g : ℕ → Option ℕ) (r : ℕ) → ((w : ℕ) × (w < n) × (g w ≡ Some r)) ⊎ ((w : ℕ) → w < n → g w ≡ Some r → ⊥)
owned zero g r = inr (λ w l e. omega (arith, l))
owned (suc n) g r = elim (same_or (g n) r) [
  | inl e ↦ inl (n, omega arith, e)
  | inr d ↦ elim (owned n g r) [
    | inl h ↦ inl (h.0, omega (arith, h.1), h.2)
    | inr h ↦ inr (λ w l e. elim (split w n) [ inl p ↦ d (ap g (sym p) ∙ e) | inr q ↦ h w (omega (arith, l, q)) e ])
  ]
]

differs : Option ℕ → Option ℕ → Bool
differs None None = false
differs None (Some y) = true
differs (Some x) None = true
differs (Some x) (Some y) = not (eqb x y)

same_differs : (o p : Option ℕ) → o ≡ p → differs o p ≡ false
unfolding differs
same_differs None p e = rw (← e) refl
same_differs (Some x) p e = let t : eqb x x ≡ true = grind (arith, nat_tests) in rw (← e) (ap not t)

other_differs : (o p : Option ℕ) → (o ≡ p → ⊥) → differs o p ≡ true
unfolding differs
other_differs None None d = absurd (d refl)
other_differs None (Some y) d = refl
other_differs (Some x) None d = refl
other_differs (Some x) (Some y) d = elim (split x y) [ inl e ↦ absurd (d (ap Some e)) | inr e ↦ let t : eqb x y ≡ false = grind (arith, nat_tests) in ap not t ]

module _ (n m : ℕ) (fits : ℕ → ℕ → Bool) where
  -- a resource that nobody has goes to v
  put_ok : (g : ℕ → Option ℕ) (v r : ℕ) → r < m → fits v r ≡ true → IsAssignment n m fits g → ((w : ℕ) → w < n → g w ≡ Some r → ⊥) → IsAssignment n m fits (handed g v v r)
  put_ok g v r lr fit a free = record {
    in_set = λ w x l e. elim (handed_cases g v v r w x e) [ inl p ↦ subst (λ k. fits k x ≡ true) (sym p.0) (subst (λ y. fits v y ≡ true) (sym p.1) fit) | inr q ↦ a.in_set w x l q.2 ];
    in_range = λ w x l e. elim (handed_cases g v v r w x e) [ inl p ↦ omega (arith, p.1, lr) | inr q ↦ a.in_range w x l q.2 ];
    apart = λ w z x l k e d. elim (handed_cases g v v r w x e) [
      | inl p ↦ elim (handed_cases g v v r z x d) [
        | inl q ↦ omega (arith, p.0, q.0)
        | inr q ↦ absurd (free z k (q.2 ∙ ap Some p.1))
      ]
      | inr p ↦ elim (handed_cases g v v r z x d) [
        | inl q ↦ absurd (free w l (p.2 ∙ ap Some q.1))
        | inr q ↦ a.apart w z x l k p.2 q.2
      ]
    ];
  }

  put_one : (g : ℕ → Option ℕ) (v r w : ℕ) → one_if (is_some (handed g v v r w)) ≡ cond (eqb w v) 1 (one_if (is_some (g w)))
  put_one g v r w = elim (split w v) [
    | inl e ↦ let t : eqb w v ≡ true = grind (arith, nat_tests) in ap (λ o. one_if (is_some o)) (handed_u g v v r w e) ∙ sym (ap (λ b. cond b 1 (one_if (is_some (g w)))) t)
    | inr d ↦ let t : eqb w v ≡ false = grind (arith, nat_tests) in ap (λ o. one_if (is_some o)) (handed_other g v v r w d d) ∙ sym (ap (λ b. cond b 1 (one_if (is_some (g w)))) t)
  ]

  put_size : (g : ℕ → Option ℕ) (v r : ℕ) → v < n → g v ≡ None → size_of n (handed g v v r) ≡ size_of n g + 1
  put_size g v r lv e =
      let none : one_if (is_some (g v)) ≡ 0 = ap (λ o. one_if (is_some o)) e in
      omega (arith, sum_same n (λ w. one_if (is_some (handed g v v r w))) (λ w. cond (eqb w v) 1 (one_if (is_some (g w)))) (λ w l. put_one g v r w), sum_put n v 1 (λ w. one_if (is_some (g w))) lv, none)

  -- where a largest assignment leaves v out, each resource of its set is taken
  taken : (g : ℕ → Option ℕ) (v r : ℕ) → v < n → r < m → IsLargest n m fits g → g v ≡ None → fits v r ≡ true → (w : ℕ) × (w < n) × (g w ≡ Some r)
  taken g v r lv lr lg e fit = elim (owned n g r) [
    | inl h ↦ h
    | inr free ↦ absurd (omega (arith, lg.largest (handed g v v r) (put_ok g v r lr fit lg.is_assignment free), put_size g v r lv e))
  ]

  -- and a largest assignment leaves out who has it
  swapped : (g : ℕ → Option ℕ) (v w r : ℕ) → v < n → w < n → IsLargest n m fits g → g v ≡ None → g w ≡ Some r → fits v r ≡ true → IsLargest n m fits (handed g v w r)
  swapped g v w r lv lw lg ev ew fit =
      let d : v ≢ w = λ p. some_not_none (g w) r ew (ap g (sym p) ∙ ev) in
      record {
        is_assignment = handed_ok n m fits g v w r lw lg.is_assignment ew fit;
        largest = λ x a. omega (arith, lg.largest x a, handed_size n m fits g v w r lv lw d ev ew);
      }

  out_of : (g : ℕ → Option ℕ) (v w r : ℕ) → v < n → w < n → IsLargest n m fits g → g v ≡ None → g w ≡ Some r → fits v r ≡ true → CanBeLeftOut n m fits w
  out_of g v w r lv lw lg ev ew fit =
      let d : w ≢ v = λ p. some_not_none (g w) r ew (ap g p ∙ ev) in
      (handed g v w r, swapped g v w r lv lw lg ev ew fit, handed_v g v w r w d refl)

  module _ (f : ℕ → Option ℕ) (lf : IsLargest n m fits f) where
    -- an assignment that leaves v out, and takes resources from none but those that can be left out
    record Freed (g : ℕ → Option ℕ) (v : ℕ) : Type 0 where
      pub new : ℕ → Option ℕ
      pub is_assignment : IsAssignment n m fits new
      pub size : size_of n new ≡ size_of n f
      pub none : new v ≡ None
      pub agrees : (x : ℕ) → f x ≡ g x → new x ≡ f x
      pub owners : (r x : ℕ) → x < n → new x ≡ Some r → (f x ≡ Some r) ⊎ ((y : ℕ) × (y < n) × CanBeLeftOut n m fits y × (f y ≡ Some r))

    distance : (ℕ → Option ℕ) → ℕ
    distance g = sum_below n (λ x. one_if (differs (f x) (g x)))

    -- after a swap towards f the two differ less
    nearer : (g : ℕ → Option ℕ) (v w r : ℕ) → v < n → w < n → f v ≡ Some r → g v ≡ None → g w ≡ Some r → distance (handed g v w r) < distance g
    unfolding distance
    nearer g v w r lv lw e ev ew =
        let d : w ≢ v = λ p. some_not_none (g w) r ew (ap g p ∙ ev) in
        let at_v : differs (f v) (handed g v w r v) ≡ false = same_differs (f v) (handed g v w r v) (e ∙ sym (handed_u g v w r v refl)) in
        let was_v : differs (f v) (g v) ≡ true = other_differs (f v) (g v) (λ q. some_not_none (f v) r e (q ∙ ev)) in
        let was_w : differs (f w) (g w) ≡ true = other_differs (f w) (g w) (λ q. d (lf.is_assignment.apart w v r lw lv (q ∙ ew) e)) in
        sum_lt n v (λ x. one_if (differs (f x) (handed g v w r x))) (λ x. one_if (differs (f x) (g x))) lv
        (λ x l. elim (split x v) [
          | inl p ↦ subst (λ y. one_if (differs (f y) (handed g v w r y)) ≤ one_if (differs (f y) (g y))) (sym p) (omega (arith, ap one_if at_v))
          | inr c ↦ elim (split x w) [
            | inl p ↦ subst (λ y. one_if (differs (f y) (handed g v w r y)) ≤ one_if (differs (f y) (g y))) (sym p) (omega (arith, ap one_if was_w, at_most (differs (f w) (handed g v w r w))))
            | inr q ↦ let same = ap (λ o. one_if (differs (f x) o)) (handed_other g v w r x c q) in omega (arith, same)
          ]
        ])
        (omega (arith, ap one_if at_v, ap one_if was_v))

    freed_at : (k : ℕ) (g : ℕ → Option ℕ) (v : ℕ) → distance g < suc k → v < n → IsLargest n m fits g → g v ≡ None → ((h : ℕ → Option ℕ) (u : ℕ) → distance h < k → u < n → IsLargest n m fits h → h u ≡ None → Freed h u) → (o : Option ℕ) → f v ≡ o → Freed g v
    freed_at k g v lk lv lg ev rest None e = record { new = f; is_assignment = lf.is_assignment; size = refl; none = e; agrees = λ x q. refl; owners = λ r x l q. inl q }
    freed_at k g v lk lv lg ev rest (Some r) e =
        let a = lf.is_assignment in
        let t = taken g v r lv (a.in_range v r lv e) lg ev (a.in_set v r lv e) in
        let w = t.0 in
        let lw = t.1 in
        let ew = t.2 in
        let d : w ≢ v = λ p. some_not_none (g w) r ew (ap g p ∙ ev) in
        let dv : v ≢ w = λ p. d (sym p) in
        let next = handed g v w r in
        let h = rest next w (omega (arith, nearer g v w r lv lw e ev ew, lk)) lw (swapped g v w r lv lw lg ev ew (a.in_set v r lv e)) (handed_v g v w r w d refl) in
        let keeps : h.new v ≡ Some r = h.agrees v (e ∙ sym (handed_u g v w r v refl)) ∙ e in
        record {
          new = handed h.new w v r;
          is_assignment = handed_ok n m fits h.new w v r lv h.is_assignment keeps (lg.is_assignment.in_set w r lw ew);
          size = handed_size n m fits h.new w v r lw lv d h.none keeps ∙ h.size;
          none = handed_v h.new w v r v dv refl;
          agrees = λ x q.
              let not_v : x ≢ v = λ p. some_not_none (f x) r (ap f p ∙ e) (q ∙ ap g p ∙ ev) in
              let not_w : x ≢ w = λ p. d (a.apart w v r lw lv (ap f (sym p) ∙ q ∙ ap g p ∙ ew) e) in
              handed_other h.new w v r x not_w not_v ∙ h.agrees x (q ∙ sym (handed_other g v w r x not_v not_w));
          owners = λ s x l q. elim (handed_cases h.new w v r x s q) [
            | inl p ↦ inr (v, lv, (g, lg, ev), e ∙ ap Some (sym p.1))
            | inr p ↦ h.owners s x l p.2
          ];
        }

    freed : (k : ℕ) (g : ℕ → Option ℕ) (v : ℕ) → distance g < k → v < n → IsLargest n m fits g → g v ≡ None → Freed g v
    freed zero g v lk lv lg ev = absurd (omega arith)
    freed (suc k) g v lk lv lg ev = freed_at k g v lk lv lg ev (freed k) (f v) refl

    -- each resource of what can be left out is in the hands of what can be left out
    pub closed : (v r : ℕ) → v < n → r < m → CanBeLeftOut n m fits v → fits v r ≡ true → (w : ℕ) × (w < n) × CanBeLeftOut n m fits w × (f w ≡ Some r)
    closed v r lv lr out fit =
        let g : ℕ → Option ℕ = out.0 in
        let h = freed (suc (distance g)) g v (omega arith) lv out.1 out.2 in
        let large : IsLargest n m fits h.new = record { is_assignment = h.is_assignment; largest = λ x a. omega (arith, lf.largest x a, h.size) } in
        let t = taken h.new v r lv lr large h.none fit in
        elim (h.owners r t.0 t.1 t.2) [
          | inl e ↦ (t.0, t.1, out_of h.new v t.0 r lv t.1 large h.none t.2 fit, e)
          | inr y ↦ (y.0, y.1, y.2, y.3)
        ]

none_where_full : (n m : ℕ) (fits : ℕ → ℕ → Bool) (b : Bool) → (most n m fits == n) ≡ b → hall_of n m fits ≡ None → IsFull n m fits
unfolding hall_of
none_where_full n m fits true e h = let q : most n m fits ≡ n = grind (arith, nat_tests, e) in serves_all n m fits q
none_where_full n m fits false e h = let k : ◌≡◌ {A = Option VarSet} (Some (set_where (is_left_out n m fits))) None = sym (ap (λ b. cond b None (Some (set_where (is_left_out n m fits)))) e) ∙ h in cc

-- none is computed only where all are served
pub none_is_full : (n m : ℕ) (fits : ℕ → ℕ → Bool) → hall_of n m fits ≡ None → IsFull n m fits
none_is_full n m fits h = none_where_full n m fits (most n m fits == n) refl h

record IsComputed (n m : ℕ) (fits : ℕ → ℕ → Bool) (s : VarSet) : Type 0 where
  pub less : most n m fits ≢ n
  pub set : s ≡ set_where (is_left_out n m fits)

some_where_less : (n m : ℕ) (fits : ℕ → ℕ → Bool) (s : VarSet) (b : Bool) → (most n m fits == n) ≡ b → hall_of n m fits ≡ Some s → IsComputed n m fits s
unfolding hall_of
some_where_less n m fits s true e h = let k : ◌≡◌ {A = Option VarSet} None (Some s) = sym (ap (λ b. cond b None (Some (set_where (is_left_out n m fits)))) e) ∙ h in cc
some_where_less n m fits s false e h =
    let k : ◌≡◌ {A = Option VarSet} (Some (set_where (is_left_out n m fits))) (Some s) = sym (ap (λ b. cond b None (Some (set_where (is_left_out n m fits)))) e) ∙ h in
    record {
      less = λ q. let t : (most n m fits == n) ≡ true = grind (arith, nat_tests, q) in let f : true ≡ false = sym t ∙ e in cc;
      set = cc (k);
    }

module _ (n m : ℕ) (fits : ℕ → ℕ → Bool) (few : n ≤ 192) (less : most n m fits ≢ n) where
  the_set : VarSet
  the_set = set_where (is_left_out n m fits)

  test : (v : ℕ) → v < n → in_set the_set v ≡ is_left_out n m fits v
  unfolding the_set
  test v l = set_test (is_left_out n m fits) v (omega (arith, few, l))

  past : (v : ℕ) → in_set the_set v ≡ true → v < n
  unfolding the_set
  past v e = elim (le_or v 192) [
    | inl l ↦ let t : nat_lt v n ≡ true = (both (nat_lt v n) (most n m (emptied fits v) == most n m fits) (sym (set_test (is_left_out n m fits) v l) ∙ e)).0 in grind (arith, nat_tests)
    | inr l ↦ absurd (in_words (is_left_out n m fits) v l e)
  ]

  served : (f : ℕ → Option ℕ) × IsAssignment n m fits f × (size_of n f ≡ most n m fits)
  served = most_attained n m fits

  large : IsLargest n m fits served.0
  large = record { is_assignment = served.1; largest = λ g a. omega (arith, most_upper n m fits g a, served.2) }

  out_is : (v : ℕ) → v < n → CanBeLeftOut n m fits v → in_set the_set v ≡ true
  out_is v l h = test v l ∙ (left_out_is n m fits v l).1 h

  is_out : (v : ℕ) → v < n → in_set the_set v ≡ true → CanBeLeftOut n m fits v
  is_out v l e = (left_out_is n m fits v l).0 (sym (test v l) ∙ e)

  wanted_le : (r : ℕ) → r < m → one_if (is_wanted n fits the_set r) ≤ users n m fits (in_set the_set) served.0 r
  unfolding users
  wanted_le r l = elim (bool_cases (is_wanted n fits the_set r)) [
    | inl e ↦
        let v = some_any n (λ v. in_set the_set v && fits v r) e in
        let p = both (in_set the_set v.0) (fits v.0 r) v.2 in
        let x = closed n m fits served.0 large v.0 r v.1 l (is_out v.0 v.1 p.0) p.1 in
        let up = part_le n x.0 (λ v. one_if (in_set the_set v && has (served.0 v) r)) x.1 in
        let here : one_if (in_set the_set x.0 && has (served.0 x.0) r) ≡ 1 = ap one_if (and_yes (in_set the_set x.0) (has (served.0 x.0) r) (out_is x.0 x.1 x.2) (some_has (served.0 x.0) r x.3)) in
        omega (arith, up, here, at_most (is_wanted n fits the_set r))
    | inr e ↦ omega (arith, ap one_if e)
  ]

  below_all : most n m fits < n
  below_all = omega (arith, served.2, less, sum_le n (λ v. one_if (is_some (served.0 v))) (λ v. 1) (λ v l. at_most (is_some (served.0 v))), ones_sum n)

  inside_less : inside n m fits (in_set the_set) served.0 < sum_below n (λ v. one_if (in_set the_set v))
  unfolding inside
  inside_less =
      let v = lacks n served.0 (omega (arith, below_all, served.2)) in
      let t = out_is v.0 v.1 (served.0, large, v.2) in
      let no : one_if (in_set the_set v.0 && is_some (served.0 v.0)) ≡ 0 = rw (t, v.2) refl in
      let one : one_if (in_set the_set v.0) ≡ 1 = ap one_if t in
      sum_lt n v.0 (λ x. one_if (in_set the_set x && is_some (served.0 x))) (λ x. one_if (in_set the_set x)) v.1 (λ x l. part_of (in_set the_set x) (is_some (served.0 x))) (omega (arith, no, one))

  set_is_hall : IsHall n m fits the_set
  set_is_hall = record {
    exact = λ v l. (is_out v l, out_is v l);
    below = past;
    more = omega (arith, sum_le m (λ r. one_if (is_wanted n fits the_set r)) (users n m fits (in_set the_set) served.0) wanted_le, inside_users n m fits (in_set the_set) served.0 served.1, inside_less);
  }

-- the set that is computed is what some largest assignment leaves out, and more than its resources
pub some_is_hall : (n m : ℕ) (fits : ℕ → ℕ → Bool) (s : VarSet) → n ≤ 192 → hall_of n m fits ≡ Some s → IsHall n m fits s
unfolding the_set
some_is_hall n m fits s few h =
    let c = some_where_less n m fits s (most n m fits == n) refl h in
    subst (IsHall n m fits) (sym c.set) (set_is_hall n m fits few c.less)
