-- Counting by a map that keeps apart.
use Rattle.std.proofs.Common.{◌≡◌, ℕ, zero, suc, ◌<◌, ◌≤◌, Bool, true, false, ◌&&◌, ◌||◌, eqb, inl, inr, refl, sym, ap, ◌∙◌, arith}
use Rattle.std.proofs.lemmas.Bool.Decides.{nat_tests}
use Rattle.res_base.specs.Sums.{sum_below, one_if}
use Rattle.res_base.proofs.SumLemmas.{split, bool_cases, pos_cases, sum_le, sum_same, sum_zero, sum_swap, at_most_one, some_below}
use Rattle.pin_match.specs.Hall.{any_below}

pub both : (a b : Bool) → (a && b) ≡ true → (a ≡ true) × (b ≡ true)
both true b h = (refl, h)
both false b h = cc

pub and_yes : (a b : Bool) → a ≡ true → b ≡ true → (a && b) ≡ true
and_yes true b e h = h
and_yes false b e h = cc

pub yes : (b : Bool) → 0 < one_if b → b ≡ true
yes true h = refl
yes false h = absurd (omega arith)

pub at_most : (b : Bool) → one_if b ≤ 1
at_most true = omega arith
at_most false = omega arith

one_of : (m x : ℕ) → x < m → sum_below m (λ r. one_if (eqb x r)) ≡ 1
one_of zero x h = absurd (omega arith)
one_of (suc m) x h = elim (split x m) [
  | inl e ↦
      let none = sum_zero m (λ r. one_if (eqb x r)) (λ k l. let d : eqb x k ≡ false = grind (arith, nat_tests) in ap one_if d) in
      let t : eqb x m ≡ true = grind (arith, nat_tests) in
      omega (arith, none, ap one_if t)
  | inr d ↦ let t : eqb x m ≡ false = grind (arith, nat_tests) in omega (arith, one_of m x (omega (arith, d)), ap one_if t)
]

guarded : (m : ℕ) (a : Bool) (x : ℕ) → (a ≡ true → x < m) → one_if a ≡ sum_below m (λ r. one_if (a && eqb x r))
guarded m true x h = sym (one_of m x (h refl))
guarded m false x h = sym (sum_zero m (λ r. 0) (λ k l. refl))

-- what passes p is no more than what passes q, where a map takes each of the first to one of its own of the second
pub inject :
    (n m : ℕ) (p q : ℕ → Bool) (h : ℕ → ℕ) → ((v : ℕ) → v < n → p v ≡ true → (h v < m) × (q (h v) ≡ true))
    → ((v w : ℕ) → v < n → w < n → p v ≡ true → p w ≡ true → h v ≡ h w → v ≡ w) → sum_below n (λ v. one_if (p v)) ≤ sum_below m (λ r. one_if (q r))
inject n m p q h into apart =
    let spread = sum_same n (λ v. one_if (p v)) (λ v. sum_below m (λ r. one_if (p v && eqb (h v) r))) (λ v l. guarded m (p v) (h v) (λ e. (into v l e).0)) in
    let swap = sum_swap n m (λ v r. one_if (p v && eqb (h v) r)) in
    omega (arith, spread, swap, sum_le m (λ r. sum_below n (λ v. one_if (p v && eqb (h v) r))) (λ r. one_if (q r)) users)
  where
    hits : (v r : ℕ) → (p v && eqb (h v) r) ≡ true → (p v ≡ true) × (h v ≡ r)
    hits v r e = let b = both (p v) (eqb (h v) r) e in let s : h v ≡ r = grind (arith, nat_tests, b.1) in (b.0, s)

    users : (r : ℕ) → r < m → sum_below n (λ v. one_if (p v && eqb (h v) r)) ≤ one_if (q r)
    users r l =
        let one = at_most_one n (λ v. p v && eqb (h v) r) (λ v w lv lw ev ew. let a = hits v r ev in let b = hits w r ew in apart v w lv lw a.0 b.0 (a.1 ∙ sym b.1)) in
        elim (pos_cases (sum_below n (λ v. one_if (p v && eqb (h v) r)))) [
          | inl some ↦
              let k = some_below n (λ v. one_if (p v && eqb (h v) r)) some in
              let a = hits k.0 r (yes (p k.0 && eqb (h k.0) r) k.2) in
              let here : q r ≡ true = ap q (sym a.1) ∙ (into k.0 k.1 a.0).1 in
              omega (arith, one, ap one_if here)
          | inr z ↦ omega (arith, z)
        ]

-- ---- some number below

pub any_in : (n : ℕ) (p : ℕ → Bool) (v : ℕ) → v < n → p v ≡ true → any_below n p ≡ true
any_in zero p v l e = absurd (omega arith)
any_in (suc n) p v l e = elim (split v n) [
  | inl q ↦ last (any_below n p) (p n) (ap p (sym q) ∙ e)
  | inr d ↦ first (any_below n p) (p n) (any_in n p v (omega (arith, l, d)) e)
]
  where
    last : (a b : Bool) → b ≡ true → (a || b) ≡ true
    last true b f = refl
    last false b f = f

    first : (a b : Bool) → a ≡ true → (a || b) ≡ true
    first true b f = refl
    first false b f = cc

without : (a b : Bool) → (a || b) ≡ true → b ≡ false → a ≡ true
without true b e d = refl
without false b e d = let q : true ≡ false = sym e ∙ d in cc

pub some_any : (n : ℕ) (p : ℕ → Bool) → any_below n p ≡ true → (v : ℕ) × (v < n) × (p v ≡ true)
some_any zero p e = let q : false ≡ true = e in cc
some_any (suc n) p e = elim (bool_cases (p n)) [
  | inl q ↦ (n, omega arith, q)
  | inr q ↦ let h = some_any n p (without (any_below n p) (p n) e q) in (h.0, omega (arith, h.1), h.2)
]
