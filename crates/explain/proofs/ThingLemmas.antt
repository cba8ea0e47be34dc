-- One thing more, and all of them.
use Rattle.std.proofs.Common.{◌≡◌, ℕ, ◌+◌, List, ◌++◌, refl, sym, ap, ◌∙◌, append_assoc, add-one}
use Rattle.explain.specs.Things.{things_below}
use Rattle.explain.specs.declared.kinds.Thing.{Thing}

module _ (f : ℕ → List Thing) (old : List Thing) where
  more : (k : ℕ) → things_below (k + 1) f ≡ things_below k f ++ f k
  unfolding things_below
  more k = rw add-one refl

  pub one_more : (now next : List Thing) (k : ℕ) → now ≡ old ++ things_below k f → next ≡ now ++ f k → next ≡ old ++ things_below (k + 1) f
  one_more now next k is put =
      put ∙ ap (λ (xs : List Thing). xs ++ f k) is ∙ append_assoc old (things_below k f) (f k) ∙ ap (λ (xs : List Thing). old ++ xs) (sym (more k))

  pub all : (now : List Thing) (k n : ℕ) → k ≡ n → now ≡ old ++ things_below k f → now ≡ old ++ things_below n f
  all now k n e is = is ∙ ap (λ (m : ℕ). old ++ things_below m f) e
