-- One text more, and all of them.
use Rattle.std.proofs.Common.{◌≡◌, ℕ, ◌+◌, List, ◌++◌, refl, sym, ap, ◌∙◌, append_assoc, add-one}
use Rattle.explain_text.specs.Joined.{joined}

module _ (f : ℕ → List ℕ) (old : List ℕ) where
  more : (k : ℕ) → joined (k + 1) f ≡ joined k f ++ f k
  unfolding joined
  more k = rw add-one refl

  pub one_more : (now next : List ℕ) (k : ℕ) → now ≡ old ++ joined k f → next ≡ now ++ f k → next ≡ old ++ joined (k + 1) f
  one_more now next k is put = put ∙ ap (λ (xs : List ℕ). xs ++ f k) is ∙ append_assoc old (joined k f) (f k) ∙ ap (λ (xs : List ℕ). old ++ xs) (sym (more k))

  pub all : (now : List ℕ) (k n : ℕ) → k ≡ n → now ≡ old ++ joined k f → now ≡ old ++ joined n f
  all now k n e is = is ∙ ap (λ (m : ℕ). old ++ joined m f) e
