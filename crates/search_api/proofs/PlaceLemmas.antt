-- Places on a stack, the next one last.
use Rattle.std.proofs.Common.{◌≡◌, ℕ, ◌+◌, ◌*◌, ◌<◌, List, [], ◌∷◌, ◌++◌, false, Some, refl, sym, ap, subst, ◌∙◌}
use Rattle.std.specs.Prelude.{not, is_some}
use Rattle.choice_rank.specs.declared.variable.VarShape.{VarShape}
use Rattle.choice_rank.specs.Choices.{HasPositions}
use Rattle.res_base.specs.Lists.{Each}
use Rattle.res_base.proofs.ListLemmas.{each_push, each_prefix}
use Rattle.box_split.specs.Boxes.{Run, is_single}
use Rattle.box_split.specs.Paths.{box_of, split_from, lower, upper}
use Rattle.box_split.specs.BoxIn.{box_in}
use Rattle.box_split.proofs.PathLemmas.{single_none, lower_path, upper_path}
use Rattle.search_api.specs.declared.place.Place.{Place}
use Rattle.search_api.specs.Places.{IsAt, PushesHalves, paths_of, work_of}
use Rattle.search_api.proofs.WorkLemmas.{closed_less, split_less}

pub paths_push : (es : List Place) (e : Place) → paths_of (es ++ e ∷ []) ≡ paths_of es ++ e.path ∷ []
paths_push [] e = refl
paths_push (x ∷ es) e = ap (λ ps. x.path ∷ ps) (paths_push es e)

-- the paths after the halves of a place were pushed
pub paths_halves : (vs : List VarShape) (e : Place) (es new : List Place) → PushesHalves vs e es new → paths_of new ≡ (paths_of es ++ (2 * e.path + 1) ∷ []) ++ (2 * e.path) ∷ []
paths_halves vs e es new h =
    ap paths_of h.pushed ∙ paths_push (es ++ h.upper ∷ []) h.lower ∙ ap (λ ps. ps ++ h.lower.path ∷ []) (paths_push es h.upper)
    ∙ ap (λ x. (paths_of es ++ x ∷ []) ++ h.lower.path ∷ []) h.upper_path ∙ ap (λ x. (paths_of es ++ (2 * e.path + 1) ∷ []) ++ x ∷ []) h.lower_path

-- a box that is split has two choices
pub split_open : (box : List Run) (v k : ℕ) → split_from 0 box ≡ Some (v, k) → is_single box ≡ false
split_open box v k h = single_none 0 box ∙ ap (λ o. not (is_some o)) h

module _ (vs : List VarShape) where
  pub lower_is : (e : Place) (v k : ℕ) → IsAt vs e → split_from 0 (box_in vs e.b) ≡ Some (v, k) → box_of vs (2 * e.path) ≡ Some (lower (box_in vs e.b))
  lower_is e v k at s = lower_path vs e.path (box_in vs e.b) at (split_open (box_in vs e.b) v k s)

  pub upper_is : (e : Place) (v k : ℕ) → IsAt vs e → split_from 0 (box_in vs e.b) ≡ Some (v, k) → box_of vs (2 * e.path + 1) ≡ Some (upper (box_in vs e.b))
  upper_is e v k at s = upper_path vs e.path (box_in vs e.b) at (split_open (box_in vs e.b) v k s)

  pub at_last : (es : List Place) (e : Place) → Each (IsAt vs) (es ++ e ∷ []) → IsAt vs e
  at_last es e h = (each_prefix (IsAt vs) es e h).1

  pub at_rest : (es : List Place) (e : Place) → Each (IsAt vs) (es ++ e ∷ []) → Each (IsAt vs) es
  at_rest es e h = (each_prefix (IsAt vs) es e h).0

  pub at_halves : (e : Place) (es new : List Place) → PushesHalves vs e es new → Each (IsAt vs) es → Each (IsAt vs) new
  at_halves e es new h a =
      subst (Each (IsAt vs)) (sym h.pushed) (each_push (IsAt vs) (es ++ h.upper ∷ []) h.lower (each_push (IsAt vs) es h.upper a h.upper_at) h.lower_at)

  pub place_closed_less : (es : List Place) (e : Place) → HasPositions vs → IsAt vs e → work_of vs (paths_of es) < work_of vs (paths_of (es ++ e ∷ []))
  place_closed_less es e h at =
      subst (λ ps. work_of vs (paths_of es) < work_of vs ps) (sym (paths_push es e)) (closed_less vs (paths_of es) e.path (box_in vs e.b) h at)

  pub place_split_less : (e : Place) (es new : List Place) → HasPositions vs → IsAt vs e → is_single (box_in vs e.b) ≡ false → PushesHalves vs e es new → work_of vs (paths_of new) < work_of vs (paths_of (es ++ e ∷ []))
  place_split_less e es new h at s p =
      subst (λ ps. work_of vs ps < work_of vs (paths_of (es ++ e ∷ []))) (sym (paths_halves vs e es new p))
      (subst (λ ps. work_of vs ((paths_of es ++ (2 * e.path + 1) ∷ []) ++ (2 * e.path) ∷ []) < work_of vs ps) (sym (paths_push es e))
      (split_less vs (paths_of es) e.path (box_in vs e.b) h at s))
