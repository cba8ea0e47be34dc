-- The same with the box of each path beside it.
use Rattle.std.proofs.Common.{◌≡◌, ℕ, List, [], ◌∷◌, ◌++◌, false, Option, Some, None, IfSome, sym, subst}
use Rattle.std.specs.Option.{option_to_list}
use Rattle.box_split.specs.Boxes.{IsBox, is_single, low_of}
use Rattle.box_split.specs.BoxIn.{box_in}
use Rattle.box_split.proofs.PathLemmas.{path_box}
use Rattle.search_api.specs.declared.verdict.Reason.{Reason}
use Rattle.search_api.specs.declared.verdict.Verdict.TheVariants as verdict
use Rattle.search_api.specs.declared.outcome.Cause.TheVariants as cause
use Rattle.search_api.specs.declared.outcome.Closed.{Closed}
use Rattle.search_api.specs.declared.place.Place.{Place}
use Rattle.search_api.specs.Accounts.{IsLegalRank}
use Rattle.search_api.specs.Meaning.{Meaning, IsLawful}
use Rattle.search_api.specs.Places.{IsAt, PushesHalves, paths_of}
use Rattle.search_api.proofs.PlaceLemmas.{paths_push, paths_halves, at_last, at_rest, at_halves}
use Rattle.serial_search.specs.Going.{Going, Walks, cut_rank}
use Rattle.serial_search.proofs.GoingLemmas.{going_split, going_first, entry_of, close_cut, close_bad, close_leaf}

module _ (m : Meaning) (lawful : IsLawful m) (pending : List Place) (place : Place) (best : Option ℕ) (kept : List ℕ) (closed : List Closed) (walks : Walks m (pending ++ place ∷ []) best kept closed) where
  pub place_at : IsAt m.shape place
  place_at = at_last m.shape pending place walks.at

  pub place_box : IsBox m.shape (box_in m.shape place.b)
  place_box = path_box m.shape place.path (box_in m.shape place.b) lawful.is_shape.positions place_at

  before : Going m (paths_of pending ++ place.path ∷ []) best kept closed
  before = subst (λ ps. Going m ps best kept closed) (paths_push pending place) walks.going

  pub walks_cut : (low rank : ℕ) → low ≡ low_of m.shape (box_in m.shape place.b) → ◌≡◌ {A = Option ℕ} (Some rank) (cut_rank best low) → Walks m pending best kept (closed ++ entry_of place.path (cause.Cut rank) ∷ [])
  walks_cut low rank l c = record {
    at = at_rest m.shape pending place walks.at;
    going = close_cut m (paths_of pending) best kept closed place.path (box_in m.shape place.b) low rank before place_at l c;
  }

  pub walks_bad : (low : ℕ) (reason : Reason) → low ≡ low_of m.shape (box_in m.shape place.b) → cut_rank best low ≡ None → m.verdict (box_in m.shape place.b) ≡ verdict.Bad reason → Walks m pending best kept (closed ++ entry_of place.path (cause.Bad reason) ∷ [])
  walks_bad low reason l c v = record {
    at = at_rest m.shape pending place walks.at;
    going = close_bad m (paths_of pending) best kept closed place.path (box_in m.shape place.b) low reason before place_at l c v (lawful.bad_refutes reason (box_in m.shape place.b) place_box v);
  }

  pub walks_leaf : (low : ℕ) → low ≡ low_of m.shape (box_in m.shape place.b) → cut_rank best low ≡ None → m.verdict (box_in m.shape place.b) ≡ verdict.Legal → Walks m pending (Some low) (kept ++ low ∷ []) (closed ++ entry_of place.path (cause.Leaf low) ∷ [])
  walks_leaf low l c v =
      let one = lawful.legal_is_one (box_in m.shape place.b) place_box v in
      record {
        at = at_rest m.shape pending place walks.at;
        going = close_leaf m (paths_of pending) best kept closed place.path (box_in m.shape place.b) low before place_at place_box l c one.0 one.1;
      }

  pub place_open : m.verdict (box_in m.shape place.b) ≡ verdict.Open → is_single (box_in m.shape place.b) ≡ false
  place_open v = lawful.open_has_two (box_in m.shape place.b) place_box v

  pub walks_split : (new : List Place) → m.verdict (box_in m.shape place.b) ≡ verdict.Open → PushesHalves m.shape place pending new → Walks m new best kept closed
  walks_split new v h = record {
    at = at_halves m.shape place pending new h (at_rest m.shape pending place walks.at);
    going = subst (λ ps. Going m ps best kept closed) (sym (paths_halves m.shape place pending new h))
        (going_split m (paths_of pending) best kept closed place.path (box_in m.shape place.b) before place_at place_box (place_open v) v);
  }

pub walks_first : (m : Meaning) (known : Option ℕ) (place : Place) → IfSome known (IsLegalRank m) → place.path ≡ 1 → IsAt m.shape place → Walks m (place ∷ []) known (option_to_list known) []
walks_first m known place legal one at = record { at = (at, tt); going = subst (λ p. Going m (p ∷ []) known (option_to_list known) []) (sym one) (going_first m known legal) }
