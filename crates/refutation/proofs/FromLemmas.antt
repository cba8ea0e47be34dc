-- What an outcome accounts for is what a refutation needs.
use Rattle.std.proofs.Common.{◌≡◌, ◌<◌, ◌^◌, ℕ, List, Option, Some, None, sym, subst, ◌∙◌}
use Rattle.choice_rank.proofs.ChoiceLemmas.{rank_below}
use Rattle.box_split.specs.Boxes.{Run}
use Rattle.box_split.specs.Paths.{box_of}
use Rattle.box_split.proofs.PrefixLemmas.{same_box}
use Rattle.res_base.proofs.ListLemmas.{each_in, each_map}
use Rattle.search_api.specs.declared.verdict.Reason.{Reason}
use Rattle.search_api.specs.declared.outcome.Cause.{Cause}
use Rattle.search_api.specs.declared.outcome.Cause.TheVariants as cause
use Rattle.search_api.specs.declared.outcome.Closed.{Closed}
use Rattle.search_api.specs.Meaning.{Meaning, IsLawful}
use Rattle.search_api.specs.Accounts.{IsBest, IsClosed, IsEntry, IsLegalRank, Accounted}
use Rattle.refutation.specs.Forms.{FitsBound}
use Rattle.refutation.specs.Outcomes.{FitsCause, FitsEntry, IsCovered, IsRefuted, IsOwn, IsSound, IsOwned}

fits_cause : (m : Meaning) (kept : List ℕ) (box : List Run) (c : Cause) → IsClosed m kept box c → FitsCause m.shape kept box c
fits_cause m kept box (cause.Bad reason) h = tt
fits_cause m kept box (cause.Cut rank) h = h
fits_cause m kept box (cause.Leaf rank) h = h

pub covered : (m : Meaning) (best : Option ℕ) (kept : List ℕ) (closed : List Closed) → Accounted m best kept closed → IsCovered m.shape best kept closed
covered m best kept closed a = record {
  cover = a.cover;
  entries = each_map (IsEntry m kept) (FitsEntry m.shape kept) closed (λ e h. record { box = h.box; at = h.at; closed = fits_cause m kept h.box e.cause h.closed }) a.entries;
  best_is = a.best_is;
}

-- the cause of an entry, at the box of its path
bad_at : (m : Meaning) (kept : List ℕ) (e : Closed) (reason : Reason) (box : List Run) → IsEntry m kept e → e.cause ≡ cause.Bad reason → box_of m.shape e.path ≡ Some box → IsClosed m kept box (cause.Bad reason)
bad_at m kept e reason box h c b =
    let same = same_box h.box box (sym h.at ∙ b) in
    subst (λ x. IsClosed m kept x (cause.Bad reason)) same (subst (IsClosed m kept h.box) c h.closed)

pub sound : (m : Meaning) (best : Option ℕ) (kept : List ℕ) (closed : List Closed) → Accounted m best kept closed → IsSound m kept closed
sound m best kept closed a = record {
  refuted = each_map (IsEntry m kept) (IsRefuted m) closed (λ e h reason box c b. (bad_at m kept e reason box h c b).0) a.entries;
  legal = a.legal;
}

pub owned : (m : Meaning) (best : Option ℕ) (kept : List ℕ) (closed : List Closed) → Accounted m best kept closed → IsOwned m closed
owned m best kept closed a = record {
  own = each_map (IsEntry m kept) (IsOwn m) closed (λ e h reason box c b. (bad_at m kept e reason box h c b).1) a.entries;
  open_above = a.open_above;
}

-- the best rank is that of a choice
bound_at : (m : Meaning) (best : Option ℕ) (kept : List ℕ) (closed : List Closed) → IsLawful m → Accounted m best kept closed → (o : Option ℕ) → IsBest kept o → FitsBound o
bound_at m best kept closed lawful a None h = tt
bound_at m best kept closed lawful a (Some rank) h =
    let own = each_in (IsLegalRank m) rank kept a.legal h.0 in
    subst (λ (n : ℕ). n < 2 ^ 63) own.rank_is (rank_below m.shape own.choice lawful.is_shape.narrow own.is_choice)

pub bound_fits : (m : Meaning) (best : Option ℕ) (kept : List ℕ) (closed : List Closed) → IsLawful m → Accounted m best kept closed → FitsBound best
bound_fits m best kept closed lawful a = bound_at m best kept closed lawful a best a.best_is
