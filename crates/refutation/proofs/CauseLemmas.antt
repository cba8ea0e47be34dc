-- The cause of a path.
use Rattle.std.proofs.Common.{◌≡◌, ℕ, List, [], ◌∷◌, ◌++◌, true, false, cond, eqb, Option, Some, None, ◌⊎◌, inl, inr, refl, sym, ap, ◌∙◌, arith}
use Rattle.std.proofs.lemmas.Bool.Decides.{nat_tests}
use Rattle.search_api.specs.declared.outcome.Cause.{Cause}
use Rattle.search_api.specs.declared.outcome.Closed.{Closed}
use Rattle.res_base.specs.Lists.{Member}
use Rattle.refutation.specs.Outcomes.{or_else, cause_at}

pub eq_tells : (a b : ℕ) → ((eqb a b ≡ true) × (a ≡ b)) ⊎ ((eqb a b ≡ false) × (a ≡ b → ⊥))
eq_tells a b = grind (arith, nat_tests)

or_assoc : (a b c : Option Cause) → or_else (or_else a b) c ≡ or_else a (or_else b c)
or_assoc None b c = refl
or_assoc (Some x) b c = refl

or_none : (a : Option Cause) → or_else a None ≡ a
or_none None = refl
or_none (Some x) = refl

pub cause_push : (xs : List Closed) (e : Closed) (p : ℕ) → cause_at (xs ++ e ∷ []) p ≡ or_else (cond (eqb e.path p) (Some e.cause) None) (cause_at xs p)
cause_push [] e p = sym (or_none (cond (eqb e.path p) (Some e.cause) None))
cause_push (x ∷ xs) e p =
    ap (λ o. or_else o (cond (eqb x.path p) (Some x.cause) None)) (cause_push xs e p)
    ∙ or_assoc (cond (eqb e.path p) (Some e.cause) None) (cause_at xs p) (cond (eqb x.path p) (Some x.cause) None)

-- a cause that is found is that of an entry
pub cause_in : (xs : List Closed) (p : ℕ) (k : Cause) → cause_at xs p ≡ Some k → (e : Closed) × Member e xs × (e.path ≡ p) × (e.cause ≡ k)
cause_in [] p k h = cc
cause_in (x ∷ xs) p k h = at (λ q. cause_in xs p k q) (cause_at xs p) refl
  where
    here : or_else None (cond (eqb x.path p) (Some x.cause) None) ≡ Some k → (e : Closed) × Member e (x ∷ xs) × (e.path ≡ p) × (e.cause ≡ k)
    here h = elim (eq_tells x.path p) [
      | inl y ↦ let s : ◌≡◌ {A = Option Cause} (Some x.cause) (Some k) = rw y.0 at h in (x, inl refl, y.1, cc)
      | inr n ↦ let s : ◌≡◌ {A = Option Cause} None (Some k) = rw n.0 at h in cc
    ]

    at : (cause_at xs p ≡ Some k → (e : Closed) × Member e xs × (e.path ≡ p) × (e.cause ≡ k)) → (o : Option Cause) → cause_at xs p ≡ o → (e : Closed) × Member e (x ∷ xs) × (e.path ≡ p) × (e.cause ≡ k)
    at more None e = here (ap (λ o. or_else o (cond (eqb x.path p) (Some x.cause) None)) (sym e) ∙ h)
    at more (Some c) e =
        let s : ◌≡◌ {A = Option Cause} (Some c) (Some k) = ap (λ o. or_else o (cond (eqb x.path p) (Some x.cause) None)) (sym e) ∙ h in
        let r = more (e ∙ s) in
        (r.0, inr r.1, r.2, r.3)

-- where none is found, no entry has the path
pub cause_out : (xs : List Closed) (p : ℕ) (e : Closed) → cause_at xs p ≡ None → Member e xs → e.path ≡ p → ⊥
cause_out [] p e h i q = i
cause_out (x ∷ xs) p e h i q = at (λ z j. cause_out xs p e z j q) (cause_at xs p) refl
  where
    here : or_else None (cond (eqb x.path p) (Some x.cause) None) ≡ None → x.path ≡ p → ⊥
    here h q = elim (eq_tells x.path p) [
      | inl y ↦ let s : ◌≡◌ {A = Option Cause} (Some x.cause) None = rw y.0 at h in cc
      | inr n ↦ n.1 q
    ]

    at : (cause_at xs p ≡ None → Member e xs → ⊥) → (o : Option Cause) → cause_at xs p ≡ o → ⊥
    at more None z = elim i [
      | inl s ↦ here (ap (λ o. or_else o (cond (eqb x.path p) (Some x.cause) None)) (sym z) ∙ h) (ap (λ (x : Closed). x.path) (sym s) ∙ q)
      | inr j ↦ more z j
    ]
    at more (Some c) z = let s : ◌≡◌ {A = Option Cause} (Some c) None = ap (λ o. or_else o (cond (eqb x.path p) (Some x.cause) None)) (sym z) ∙ h in cc
