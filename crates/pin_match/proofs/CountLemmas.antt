-- The count behind a closed search.
use Rattle.std.proofs.Common.{◌≡◌, ℕ, zero, suc, ◌+◌, ◌<◌, ◌≤◌, Bool, true, false, ◌&&◌, not, eqb, Option, Some, None, inl, inr, refl, sym, ap, ◌∙◌, arith}
use Rattle.std.specs.Prelude.{is_some}
use Rattle.std.proofs.lemmas.Bool.Decides.{nat_tests}
use Rattle.res_base.specs.Sums.{sum_below, one_if}
use Rattle.pin_match.specs.Assignments.{IsAssignment, size_of, IsLargest, IsReached}
use Rattle.res_base.proofs.SumLemmas.{split, bool_cases, pos_cases, sum_le, sum_lt, sum_same, sum_zero, sum_add, sum_swap, part_le, at_most_one, some_below}

-- whether the resource is r
abbrev pub has : Option ℕ → ℕ → Bool
has None r = false
has (Some x) r = eqb x r

has_some : (o : Option ℕ) (r : ℕ) → has o r ≡ true → o ≡ Some r
has_some None r e = cc
has_some (Some x) r e = let same : x ≡ r = grind (arith, nat_tests, e) in ap Some same

pub some_has : (o : Option ℕ) (r : ℕ) → o ≡ Some r → has o r ≡ true
some_has o r e = rw e (grind (arith, nat_tests))

one_of : (m x : ℕ) → x < m → sum_below m (λ r. one_if (eqb x r)) ≡ 1
one_of zero x h = absurd (omega arith)
one_of (suc m) x h = elim (split x m) [
  | inl e ↦
      let none = sum_zero m (λ r. one_if (eqb x r)) (λ k l. let d : eqb x k ≡ false = grind (arith, nat_tests) in ap one_if d) in
      let t : eqb x m ≡ true = grind (arith, nat_tests) in
      omega (arith, none, ap one_if t)
  | inr d ↦ let t : eqb x m ≡ false = grind (arith, nat_tests) in omega (arith, one_of m x (omega (arith, d)), ap one_if t)
]

-- a variable counts once among the resources
one_resource : (m : ℕ) (o : Option ℕ) → ((r : ℕ) → o ≡ Some r → r < m) → sum_below m (λ r. one_if (has o r)) ≡ one_if (is_some o)
one_resource m None h = sum_zero m (λ r. 0) (λ k l. refl)
one_resource m (Some x) h = one_of m x (h x refl)

yes : (b : Bool) → 0 < one_if b → b ≡ true
yes true h = refl
yes false h = absurd (omega arith)

pub both : (a b : Bool) → (a && b) ≡ true → (a ≡ true) × (b ≡ true)
both true b h = (refl, h)
both false b h = cc

pub and_yes : (a b : Bool) → a ≡ true → b ≡ true → (a && b) ≡ true
and_yes true b e h = h
and_yes false b e h = cc

parts : (a b : Bool) → one_if b ≡ one_if (a && b) + one_if (not a && b)
parts true b = omega arith
parts false b = omega arith

guarded : (m : ℕ) (a : Bool) (o : Option ℕ) → ((r : ℕ) → o ≡ Some r → r < m) → one_if (a && is_some o) ≡ sum_below m (λ r. one_if (a && has o r))
guarded m true o h = sym (one_resource m o h)
guarded m false o h = sym (sum_zero m (λ r. 0) (λ k l. refl))

pub at_most : (b : Bool) → one_if b ≤ 1
at_most true = omega arith
at_most false = omega arith

module _ (n m : ℕ) (fits : ℕ → ℕ → Bool) (reached : ℕ → Bool) where
  unfoldable pub inside : (ℕ → Option ℕ) → ℕ
  inside g = sum_below n (λ v. one_if (reached v && is_some (g v)))

  outside : (ℕ → Option ℕ) → ℕ
  outside g = sum_below n (λ v. one_if (not (reached v) && is_some (g v)))

  unfoldable pub users : (ℕ → Option ℕ) → ℕ → ℕ
  users g r = sum_below n (λ v. one_if (reached v && has (g v) r))

  size_parts : (g : ℕ → Option ℕ) → size_of n g ≡ inside g + outside g
  unfolding inside outside
  size_parts g =
      sum_same n (λ v. one_if (is_some (g v))) (λ v. one_if (reached v && is_some (g v)) + one_if (not (reached v) && is_some (g v))) (λ v l. parts (reached v) (is_some (g v)))
      ∙ sum_add n (λ v. one_if (reached v && is_some (g v))) (λ v. one_if (not (reached v) && is_some (g v)))

  pub inside_users : (g : ℕ → Option ℕ) → IsAssignment n m fits g → inside g ≡ sum_below m (users g)
  unfolding inside users
  inside_users g a =
      sum_same n (λ v. one_if (reached v && is_some (g v))) (λ v. sum_below m (λ r. one_if (reached v && has (g v) r))) (λ v l. guarded m (reached v) (g v) (λ r e. a.in_range v r l e))
      ∙ sum_swap n m (λ v r. one_if (reached v && has (g v) r))

  module _ (f : ℕ → Option ℕ) (rank : ℕ → ℕ) (af : IsAssignment n m fits f) (s : IsReached n m fits f reached rank) where
    -- what another assignment gives to reached variables, this one does too
    users_le : (g : ℕ → Option ℕ) → IsAssignment n m fits g → (r : ℕ) → r < m → users g r ≤ users f r
    unfolding users
    users_le g a r l =
        let one = at_most_one n (λ v. reached v && has (g v) r) (λ v w lv lw ev ew. a.apart v w r lv lw (has_some (g v) r (both (reached v) (has (g v) r) ev).1) (has_some (g w) r (both (reached w) (has (g w) r) ew).1)) in
        elim (pos_cases (sum_below n (λ v. one_if (reached v && has (g v) r)))) [
          | inl p ↦
              let k = some_below n (λ v. one_if (reached v && has (g v) r)) p in
              let t = both (reached k.0) (has (g k.0) r) (yes (reached k.0 && has (g k.0) r) k.2) in
              let w = s.closed k.0 r k.1 l t.0 (a.in_set k.0 r k.1 (has_some (g k.0) r t.1)) in
              let up = part_le n w.0 (λ v. one_if (reached v && has (f v) r)) w.1 in
              let here : one_if (reached w.0 && has (f w.0) r) ≡ 1 = ap one_if (and_yes (reached w.0) (has (f w.0) r) w.2 (some_has (f w.0) r w.3)) in
              omega (arith, one, up, here)
          | inr z ↦ omega (arith, z)
        ]

    inside_le : (g : ℕ → Option ℕ) → IsAssignment n m fits g → inside g ≤ inside f
    inside_le g a = omega (arith, inside_users g a, inside_users f af, sum_le m (users g) (users f) (users_le g a))

    served_at : (v : ℕ) → v < n → reached v ≡ false → (o : Option ℕ) → f v ≡ o → is_some (f v) ≡ true
    served_at v l e None q = let t : true ≡ false = sym (s.left_out v l q) ∙ e in cc
    served_at v l e (Some r) q = ap is_some q

    -- a variable that isn't reached has a resource
    served : (v : ℕ) → v < n → reached v ≡ false → is_some (f v) ≡ true
    served v l e = served_at v l e (f v) refl

    out_le : (g : ℕ → Option ℕ) (v : ℕ) → v < n → one_if (not (reached v) && is_some (g v)) ≤ one_if (not (reached v) && is_some (f v))
    out_le g v l = elim (bool_cases (reached v)) [
      | inl e ↦ rw e (omega arith)
      | inr e ↦ let t = served v l e in rw (e, t) (at_most (is_some (g v)))
    ]

    outside_le : (g : ℕ → Option ℕ) → outside g ≤ outside f
    unfolding outside
    outside_le g = sum_le n (λ v. one_if (not (reached v) && is_some (g v))) (λ v. one_if (not (reached v) && is_some (f v))) (out_le g)

    pub is_largest : IsLargest n m fits f
    is_largest = record {
      is_assignment = af;
      largest = λ g a. omega (arith, size_parts g, size_parts f, inside_le g a, outside_le g);
    }

    -- what a largest assignment leaves out is reached
    pub out_reached : (v : ℕ) → v < n → (g : ℕ → Option ℕ) → IsLargest n m fits g → g v ≡ None → reached v ≡ true
    unfolding outside
    out_reached v l g lg e = elim (bool_cases (reached v)) [
      | inl t ↦ t
      | inr t ↦
          let yes_f : one_if (not (reached v) && is_some (f v)) ≡ 1 = rw (t, served v l t) refl in
          let no_g : one_if (not (reached v) && is_some (g v)) ≡ 0 = rw (t, e) refl in
          let less = sum_lt n v (λ w. one_if (not (reached w) && is_some (g w))) (λ w. one_if (not (reached w) && is_some (f w))) l (out_le g) (omega (arith, yes_f, no_g)) in
          absurd (omega (arith, lg.largest f af, size_parts g, size_parts f, inside_le g lg.is_assignment, less))
    ]
