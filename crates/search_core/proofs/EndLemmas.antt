-- The ends of deques.
use Rattle.std.proofs.Common.{◌≡◌, ℕ, List, [], ◌∷◌, ◌++◌, set, Option, Some, None, MatchOption, refl, sym, ap, ◌∙◌}
use Rattle.std.specs.Prelude.{slice_get}
use Rattle.std.proofs.lemmas.Option.{same_Some}
use Rattle.search_core.specs.Ends.{IsEmptyAt, TakesFirst, TakesLast}
use Rattle.search_core.proofs.ChangeLemmas.{put_same}

stays_empty : (old : List (List ℕ)) (w : ℕ) (d e : List ℕ) → slice_get old w ≡ Some d → (d ≡ []) × (e ≡ []) → (set old w e ≡ old) × IsEmptyAt old w
stays_empty old w d e at h = (
  ap (set old w) (h.1 ∙ sym h.0) ∙ put_same old w d at,
  (λ x g. same_Some x d (sym g ∙ at) ∙ h.0),
)

pub took_last : (old : List (List ℕ)) (w : ℕ) (r : Option ℕ) (d e : List ℕ) → slice_get old w ≡ Some d → MatchOption r ((d ≡ []) × (e ≡ [])) (λ path. d ≡ e ++ path ∷ []) → MatchOption r ((set old w e ≡ old) × IsEmptyAt old w) (λ path. TakesLast old w path (set old w e))
took_last old w None d e at h = stays_empty old w d e at h
took_last old w (Some path) d e at h = record { rest = e; was = at ∙ ap Some h; is = refl }

pub took_first : (old : List (List ℕ)) (w : ℕ) (r : Option ℕ) (d e : List ℕ) → slice_get old w ≡ Some d → MatchOption r ((d ≡ []) × (e ≡ [])) (λ path. d ≡ path ∷ e) → MatchOption r ((set old w e ≡ old) × IsEmptyAt old w) (λ path. TakesFirst old w path (set old w e))
took_first old w None d e at h = stays_empty old w d e at h
took_first old w (Some path) d e at h = record { rest = e; was = at ∙ ap Some h; is = refl }
