-- Each reached variable is left out by some largest assignment.
use Rattle.std.proofs.Common.{◌≡◌, ◌≢◌, ℕ, zero, suc, ◌<◌, Bool, true, false, cond, eqb, Option, Some, None, ◌⊎◌, inl, inr, refl, sym, ap, subst, ◌∙◌, arith}
use Rattle.std.specs.Prelude.{is_some, ◌↔◌}
use Rattle.std.proofs.lemmas.Bool.Decides.{nat_tests}
use Rattle.res_base.specs.Sums.{one_if}
use Rattle.pin_match.specs.Assignments.{IsAssignment, size_of, IsLargest, IsReached, CanBeLeftOut}
use Rattle.res_base.proofs.SumLemmas.{split, sum_same, sum_put}
use Rattle.pin_match.proofs.CountLemmas.{is_largest, out_reached}

-- the resource r goes from v to u
pub handed : (ℕ → Option ℕ) → ℕ → ℕ → ℕ → ℕ → Option ℕ
handed g u v r w = cond (eqb w u) (Some r) (cond (eqb w v) None (g w))

pub handed_u : (g : ℕ → Option ℕ) (u v r w : ℕ) → w ≡ u → handed g u v r w ≡ Some r
unfolding handed
handed_u g u v r w e = let t : eqb w u ≡ true = grind (arith, nat_tests) in rw t refl

pub handed_v : (g : ℕ → Option ℕ) (u v r w : ℕ) → w ≢ u → w ≡ v → handed g u v r w ≡ None
unfolding handed
handed_v g u v r w d e = let t : eqb w u ≡ false = grind (arith, nat_tests) in let q : eqb w v ≡ true = grind (arith, nat_tests) in rw (t, q) refl

pub handed_other : (g : ℕ → Option ℕ) (u v r w : ℕ) → w ≢ u → w ≢ v → handed g u v r w ≡ g w
unfolding handed
handed_other g u v r w d e = let t : eqb w u ≡ false = grind (arith, nat_tests) in let q : eqb w v ≡ false = grind (arith, nat_tests) in rw (t, q) refl

-- what the handed assignment gives w
pub handed_cases : (g : ℕ → Option ℕ) (u v r w x : ℕ) → handed g u v r w ≡ Some x → ((w ≡ u) × (x ≡ r)) ⊎ ((w ≢ u) × (w ≢ v) × (g w ≡ Some x))
handed_cases g u v r w x e = elim (split w u) [
  | inl p ↦ let q : ◌≡◌ {A = Option ℕ} (Some x) (Some r) = sym e ∙ handed_u g u v r w p in let same : x ≡ r = cc in inl (p, same)
  | inr d ↦ elim (split w v) [
    | inl p ↦ let q : ◌≡◌ {A = Option ℕ} (Some x) None = sym e ∙ handed_v g u v r w d p in cc
    | inr f ↦ inr (d, f, sym (handed_other g u v r w d f) ∙ e)
  ]
]

by_tests : (a b : Bool) (r : ℕ) (o : Option ℕ) → one_if (is_some (cond a (Some r) (cond b None o))) ≡ cond a 1 (cond b 0 (one_if (is_some o)))
by_tests true b r o = refl
by_tests false true r o = refl
by_tests false false r o = refl

module _ (n m : ℕ) (fits : ℕ → ℕ → Bool) where
  pub handed_ok : (g : ℕ → Option ℕ) (u v r : ℕ) → v < n → IsAssignment n m fits g → g v ≡ Some r → fits u r ≡ true → IsAssignment n m fits (handed g u v r)
  handed_ok g u v r lv a ev ef = record {
    in_set = λ w x l e. elim (handed_cases g u v r w x e) [ inl p ↦ subst (λ k. fits k x ≡ true) (sym p.0) (subst (λ y. fits u y ≡ true) (sym p.1) ef) | inr q ↦ a.in_set w x l q.2 ];
    in_range = λ w x l e. elim (handed_cases g u v r w x e) [ inl p ↦ omega (arith, p.1, a.in_range v r lv ev) | inr q ↦ a.in_range w x l q.2 ];
    apart = λ w z x l k e d. elim (handed_cases g u v r w x e) [
      | inl p ↦ elim (handed_cases g u v r z x d) [
        | inl q ↦ omega (arith, p.0, q.0)
        | inr q ↦ absurd (q.1 (a.apart z v r k lv (subst (λ y. g z ≡ Some y) p.1 q.2) ev))
      ]
      | inr p ↦ elim (handed_cases g u v r z x d) [
        | inl q ↦ absurd (p.1 (a.apart w v r l lv (subst (λ y. g w ≡ Some y) q.1 p.2) ev))
        | inr q ↦ a.apart w z x l k p.2 q.2
      ]
    ];
  }

  pointwise : (g : ℕ → Option ℕ) (u v r w : ℕ) → one_if (is_some (handed g u v r w)) ≡ cond (eqb w u) 1 (cond (eqb w v) 0 (one_if (is_some (g w))))
  unfolding handed
  pointwise g u v r w = by_tests (eqb w u) (eqb w v) r (g w)

  pub handed_size : (g : ℕ → Option ℕ) (u v r : ℕ) → u < n → v < n → u ≢ v → g u ≡ None → g v ≡ Some r → size_of n (handed g u v r) ≡ size_of n g
  handed_size g u v r lu lv d eu ev =
      let b : ℕ → ℕ = λ w. one_if (is_some (g w)) in
      let c : ℕ → ℕ = λ w. cond (eqb w v) 0 (b w) in
      let s = sum_same n (λ w. one_if (is_some (handed g u v r w))) (λ w. cond (eqb w u) 1 (c w)) (λ w l. pointwise g u v r w) in
      let first = sum_put n u 1 c lu in
      let second = sum_put n v 0 b lv in
      let bu : b u ≡ 0 = ap (λ o. one_if (is_some o)) eu in
      let bv : b v ≡ 1 = ap (λ o. one_if (is_some o)) ev in
      let cu : c u ≡ 0 = let t : eqb u v ≡ false = grind (arith, nat_tests) in ap (λ q. cond q 0 (b u)) t ∙ bu in
      omega (arith, s, first, second, bu, bv, cu)

  module _ (f : ℕ → Option ℕ) (reached : ℕ → Bool) (rank : ℕ → ℕ) (af : IsAssignment n m fits f) (s : IsReached n m fits f reached rank) where
    -- an assignment of the same size that leaves v out, and is the old one above v's rank
    Freed : ℕ → Type 0
    Freed v = (g : ℕ → Option ℕ) × IsAssignment n m fits g × (size_of n g ≡ size_of n f) × (g v ≡ None) × ((w : ℕ) → rank v < rank w → g w ≡ f w)

    freed_at : (k v : ℕ) → rank v < suc k → v < n → reached v ≡ true → ((u : ℕ) → rank u < k → u < n → reached u ≡ true → Freed u) → (o : Option ℕ) → f v ≡ o → Freed v
    unfolding Freed
    freed_at k v lk lv rv rest None e = (f, af, refl, e, λ w l. refl)
    freed_at k v lk lv rv rest (Some r) e =
        let b = s.back v r lv rv e in
        let u = b.0 in
        let h = rest u (omega (arith, b.4)) b.1 b.2 in
        let g = h.0 in
        let gv : g v ≡ Some r = h.4 v b.4 ∙ e in
        let d : u ≢ v = λ p. absurd (omega (arith, b.4, ap rank p)) in
        let dv : v ≢ u = λ p. d (sym p) in (
          handed g u v r,
          handed_ok g u v r lv h.1 gv b.3,
          handed_size g u v r b.1 lv d h.3 gv ∙ h.2,
          handed_v g u v r v dv refl,
          λ w l. handed_other g u v r w (λ p. absurd (omega (arith, b.4, l, ap rank p))) (λ p. absurd (omega (arith, l, ap rank p))) ∙ h.4 w (omega (arith, b.4, l)),
        )

    freed : (k v : ℕ) → rank v < k → v < n → reached v ≡ true → Freed v
    freed zero v lk lv rv = absurd (omega arith)
    freed (suc k) v lk lv rv = freed_at k v lk lv rv (freed k) (f v) refl

    left_out : (v : ℕ) → v < n → reached v ≡ true → CanBeLeftOut n m fits v
    unfolding Freed
    left_out v lv rv =
        let h = freed (suc (rank v)) v (omega arith) lv rv in
        let top = is_largest n m fits reached f rank af s in
        (h.0, record { is_assignment = h.1; largest = λ g a. omega (arith, top.largest g a, h.2) }, h.3)

    pub exactly : IsLargest n m fits f × ((v : ℕ) → v < n → (reached v ≡ true) ↔ CanBeLeftOut n m fits v)
    exactly = (is_largest n m fits reached f rank af s, λ v lv. (left_out v lv, λ c. out_reached n m fits reached f rank af s v lv c.0 c.1 c.2))
