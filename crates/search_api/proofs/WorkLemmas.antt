-- The work that is left falls.
use Rattle.std.proofs.Common.{◌≡◌, ℕ, ◌+◌, ◌*◌, ◌-◌, ◌<◌, List, [], ◌∷◌, ◌++◌, false, Option, Some, ap, arith}
use Rattle.std.specs.Option.{option_map_or}
use Rattle.res_base.proofs.ListLemmas.{total_snoc}
use Rattle.choice_rank.specs.declared.variable.VarShape.{VarShape}
use Rattle.choice_rank.specs.Choices.{HasPositions}
use Rattle.box_split.specs.Boxes.{Run, is_single, size_of}
use Rattle.box_split.specs.Paths.{lower, upper, box_of}
use Rattle.box_split.proofs.SizeLemmas.{size_pos, sizes}
use Rattle.box_split.proofs.PathLemmas.{path_box, lower_path, upper_path}
use Rattle.search_api.specs.Places.{work_of}

abbrev pub weight : List Run → ℕ
weight box = 2 * size_of box - 1

pub closed_less : (vs : List VarShape) (pending : List ℕ) (path : ℕ) (box : List Run) → HasPositions vs → box_of vs path ≡ Some box → work_of vs pending < work_of vs (pending ++ path ∷ [])
closed_less vs pending path box h e =
    omega (arith, total_snoc (λ p. option_map_or weight (box_of vs p) 0) pending path, ap (λ (o : Option (List Run)). option_map_or weight o 0) e, size_pos vs box (path_box vs path box h e))

pub split_less : (vs : List VarShape) (pending : List ℕ) (path : ℕ) (box : List Run) → HasPositions vs → box_of vs path ≡ Some box → is_single box ≡ false → work_of vs ((pending ++ (2 * path + 1) ∷ []) ++ (2 * path) ∷ []) < work_of vs (pending ++ path ∷ [])
split_less vs pending path box h e s =
    let eu = upper_path vs path box e s in
    let el = lower_path vs path box e s in
    let W : Option (List Run) → ℕ = λ o. option_map_or weight o 0 in
    let F : ℕ → ℕ = λ p. W (box_of vs p) in
    let wp : F path ≡ weight box = ap W e in
    let wu : F (2 * path + 1) ≡ weight (upper box) = ap W eu in
    let wl : F (2 * path) ≡ weight (lower box) = ap W el in
    let pu = size_pos vs (upper box) (path_box vs (2 * path + 1) (upper box) h eu) in
    let pl = size_pos vs (lower box) (path_box vs (2 * path) (lower box) h el) in
    omega (arith, total_snoc F pending path, total_snoc F (pending ++ (2 * path + 1) ∷ []) (2 * path), total_snoc F pending (2 * path + 1), sizes box s)
