-- What a text begins with: one thing behind another.
use Rattle.std.proofs.Common.{◌≡◌, ◌≢◌, ℕ, List, ◌++◌, sym, ap, ◌∙◌, append_assoc}
use Rattle.std.proofs.lemmas.List.{append_cancel_left}
use Rattle.c_print.specs.Prefixes.{Begins, BeginsNone}

-- what fits and begins one text is the same
abbrev pub TellsApart : {X : Type 0} → (X → List ℕ) → (X → Type 0) → Type 0
TellsApart {X} spell Fits = (x y : X) (xs ys : List ℕ) → Fits x → Fits y → spell x ++ xs ≡ spell y ++ ys → (x ≡ y) × (xs ≡ ys)

-- two texts, each behind one and before another
pub after_both : (a t u xs ys : List ℕ) → (a ++ t) ++ xs ≡ (a ++ u) ++ ys → t ++ xs ≡ u ++ ys
after_both a t u xs ys e = append_cancel_left a (t ++ xs) (u ++ ys) (sym (append_assoc a t xs) ∙ e ∙ append_assoc a u ys)

-- a text that is known, and then one that is in question
pub past_text : (a rest t more text : List ℕ) → text ≡ a ++ rest → text ≡ (a ++ t) ++ more → rest ≡ t ++ more
past_text a rest t more text b e = append_cancel_left a rest (t ++ more) (sym b ∙ e ∙ append_assoc a t more)

pub join : (a t rest more text : List ℕ) → text ≡ a ++ rest → rest ≡ t ++ more → text ≡ (a ++ t) ++ more
join a t rest more text b e = b ∙ ap (λ xs. a ++ xs) e ∙ sym (append_assoc a t more)

pub none_text : (a t more text : List ℕ) → ((rest : List ℕ) → text ≢ a ++ rest) → text ≢ (a ++ t) ++ more
none_text a t more text none e = none (t ++ more) (e ∙ append_assoc a t more)

module _ {X : Type 0} (spell : X → List ℕ) (Fits : X → Type 0) where
  pub both : TellsApart spell Fits → (x y : X) (t u xs ys : List ℕ) → Fits x → Fits y → (spell x ++ t) ++ xs ≡ (spell y ++ u) ++ ys → (x ≡ y) × (t ++ xs ≡ u ++ ys)
  both apart x y t u xs ys fx fy e = apart x y (t ++ xs) (u ++ ys) fx fy (sym (append_assoc (spell x) t xs) ∙ e ∙ append_assoc (spell y) u ys)

  pub past : TellsApart spell Fits → (text : List ℕ) (x : X) (rest : List ℕ) (y : X) (t more : List ℕ) → Begins spell Fits text x rest → Fits y → text ≡ (spell y ++ t) ++ more → (x ≡ y) × (rest ≡ t ++ more)
  past apart text x rest y t more b fy e = apart x y rest (t ++ more) b.fits fy (sym b.is ∙ e ∙ append_assoc (spell y) t more)

  pub none_first : (text : List ℕ) (y : X) (t more : List ℕ) → BeginsNone spell Fits text → Fits y → text ≢ (spell y ++ t) ++ more
  none_first text y t more none fy e = none y (t ++ more) fy (e ∙ append_assoc (spell y) t more)
