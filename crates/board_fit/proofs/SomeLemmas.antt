-- Either no choice is legal, or there is a legal one.
use Rattle.std.proofs.Common.{◌≡◌, ◌⊎◌, ◌∙◌, ℕ, zero, suc, ◌<◌, ◌≤◌, List, [], ◌∷◌, Bool, true, false, inl, inr, refl, sym, subst, arith}
use Rattle.choice_rank.specs.Choices.{IsChoice}
use Rattle.choice_rank.specs.Least.{NoneLegal}
use Rattle.choice_rank.specs.declared.variable.VarShape.{VarShape}
use Rattle.res_base.proofs.SumLemmas.{split}

pub record HasLegal (vs : List VarShape) (legal : List ℕ → Bool) : Type 0 where
  pub at : List ℕ
  pub choice : IsChoice vs at
  pub is_legal : legal at ≡ true

-- among the choices that begin with a position below n
below : (v : VarShape) (vs : List VarShape) (legal : List ℕ → Bool) → ((x : ℕ) → NoneLegal vs (λ xs. legal (x ∷ xs)) ⊎ HasLegal vs (λ xs. legal (x ∷ xs))) → (n : ℕ) → n ≤ v.size
    → ((x : ℕ) → x < n → NoneLegal vs (λ xs. legal (x ∷ xs))) ⊎ HasLegal (v ∷ vs) legal
below v vs legal each zero l = inl (λ x less. absurd (omega (arith, less)))
below v vs legal each (suc n) l = elim (each n) [
  | inl none ↦ further none (below v vs legal each n (omega (arith, l)))
  | inr h ↦ inr record { at = n ∷ h.at; choice = (omega (arith, l), h.choice); is_legal = h.is_legal }
]
  where
    last : NoneLegal vs (λ xs. legal (n ∷ xs)) → ((x : ℕ) → x < n → NoneLegal vs (λ xs. legal (x ∷ xs))) → (x : ℕ) → x < suc n → NoneLegal vs (λ xs. legal (x ∷ xs))
    last none rest x less = elim (split x n) [
      | inl q ↦ subst (λ (y : ℕ). NoneLegal vs (λ xs. legal (y ∷ xs))) (sym q) none
      | inr d ↦ rest x (omega (arith, less, d))
    ]

    further : NoneLegal vs (λ xs. legal (n ∷ xs)) → ((x : ℕ) → x < n → NoneLegal vs (λ xs. legal (x ∷ xs))) ⊎ HasLegal (v ∷ vs) legal → ((x : ℕ) → x < suc n → NoneLegal vs (λ xs. legal (x ∷ xs))) ⊎ HasLegal (v ∷ vs) legal
    further none (inl rest) = inl (last none rest)
    further none (inr h) = inr h

no_empty : (legal : List ℕ → Bool) → legal [] ≡ false → NoneLegal [] legal
no_empty legal e [] choice ok = let q : true ≡ false = sym ok ∙ e in cc
no_empty legal e (x ∷ xs) choice ok = choice

none_at_all : (v : VarShape) (vs : List VarShape) (legal : List ℕ → Bool) → ((x : ℕ) → x < v.size → NoneLegal vs (λ xs. legal (x ∷ xs))) → NoneLegal (v ∷ vs) legal
none_at_all v vs legal none [] choice ok = choice
none_at_all v vs legal none (x ∷ xs) choice ok = none x choice.0 xs choice.1 ok

pub some_or_none : (vs : List VarShape) (legal : List ℕ → Bool) → NoneLegal vs legal ⊎ HasLegal vs legal
some_or_none [] legal = case (legal []) refl
  where
    case : (b : Bool) → legal [] ≡ b → NoneLegal [] legal ⊎ HasLegal [] legal
    case true e = inr record { at = []; choice = tt; is_legal = e }
    case false e = inl (no_empty legal e)
some_or_none (v ∷ vs) legal = told (below v vs legal (λ x. some_or_none vs (λ xs. legal (x ∷ xs))) v.size (omega arith))
  where
    told : ((x : ℕ) → x < v.size → NoneLegal vs (λ xs. legal (x ∷ xs))) ⊎ HasLegal (v ∷ vs) legal → NoneLegal (v ∷ vs) legal ⊎ HasLegal (v ∷ vs) legal
    told (inl none) = inl (none_at_all v vs legal none)
    told (inr h) = inr h
