-- Choices in boxes, and the boxes of paths that cover them.
use Rattle.std.proofs.Common.{◌≡◌, ℕ, ◌<◌, ◌≤◌, ◌^◌, List, [], ◌∷◌, Bool, true, false, leb, Option, Some, None, refl, ap, arith}
use Rattle.std.specs.Prelude.{IsSome}
use Rattle.std.specs.Option.{option_map_or}
use Rattle.std.proofs.lemmas.Bool.Decides.{nat_tests}
use Rattle.choice_rank.specs.declared.variable.VarShape.{VarShape}
use Rattle.choice_rank.specs.Choices.{IsChoice, IsShape}
use Rattle.res_base.specs.Sums.{one_if}
use Rattle.box_split.specs.Boxes.{Run, whole, LiesIn, holds, is_single, lows}
use Rattle.box_split.specs.Paths.{box_of, covers}
use Rattle.box_split.proofs.RunLemmas.{and_both, held, box_root, positive}
use Rattle.box_split.proofs.PrefixLemmas.{counted}
use Rattle.box_split.proofs.ShortLemmas.{path_below}

pub lies : (rs : List Run) (xs : List ℕ) → holds rs xs ≡ true → LiesIn rs xs
lies [] [] h = tt
lies [] (x ∷ xs) h = cc
lies (r ∷ rs) [] h = cc
lies (r ∷ rs) (x ∷ xs) h = let a = held r rs x xs h in (a.0, a.1, lies rs xs a.2)

pub holds_in : (rs : List Run) (xs : List ℕ) → LiesIn rs xs → holds rs xs ≡ true
holds_in [] [] h = refl
holds_in [] (x ∷ xs) h = absurd h
holds_in (r ∷ rs) [] h = absurd h
holds_in (r ∷ rs) (x ∷ xs) h =
    let a : leb r.low x ≡ true = grind (arith, nat_tests, h.0) in
    let b : leb x r.high ≡ true = grind (arith, nat_tests, h.1) in
    rw (a, b) (holds_in rs xs h.2)

pub whole_lies : (vs : List VarShape) (xs : List ℕ) → IsChoice vs xs → LiesIn (whole vs) xs
whole_lies [] [] h = tt
whole_lies [] (x ∷ xs) h = absurd h
whole_lies (v ∷ vs) [] h = absurd h
whole_lies (v ∷ vs) (x ∷ xs) h = (omega arith, omega (arith, h.0), whole_lies vs xs h.1)

pub whole_covers : (vs : List VarShape) (xs : List ℕ) → IsChoice vs xs → covers vs 1 xs ≡ 1
whole_covers vs xs h = counted vs xs 1 (whole vs) (box_root vs) (holds_in (whole vs) xs (whole_lies vs xs h))

is_one : (b : Bool) → one_if b ≡ 1 → b ≡ true
is_one true e = refl
is_one false e = absurd (omega arith)

in_some : (o : Option (List Run)) (c : List ℕ) → option_map_or (λ b. one_if (holds b c)) o 0 ≡ 1 → (b : List Run) × (o ≡ Some b) × LiesIn b c
in_some None c e = absurd (omega arith)
in_some (Some b) c e = (b, refl, lies b c (is_one (holds b c) e))

pub covered_lies : (vs : List VarShape) (p : ℕ) (c : List ℕ) → covers vs p c ≡ 1 → (b : List Run) × (box_of vs p ≡ Some b) × LiesIn b c
covered_lies vs p c e = in_some (box_of vs p) c e

pub lies_covered : (vs : List VarShape) (p : ℕ) (c : List ℕ) → ((b : List Run) × (box_of vs p ≡ Some b) × LiesIn b c) → covers vs p c ≡ 1
lies_covered vs p c h = counted vs c p h.0 h.1 (holds_in h.0 c h.2)

pub covers_none : (vs : List VarShape) (p : ℕ) (c : List ℕ) → box_of vs p ≡ None → covers vs p c ≡ 0
covers_none vs p c e = ap (λ (o : Option (List Run)). option_map_or (λ b. one_if (holds b c)) o 0) e

pub single_lows : (rs : List Run) (xs : List ℕ) → is_single rs ≡ true → LiesIn rs xs → xs ≡ lows rs
single_lows [] [] s h = refl
single_lows [] (x ∷ xs) s h = absurd h
single_lows (r ∷ rs) [] s h = absurd h
single_lows (r ∷ rs) (x ∷ xs) s h =
    let a = and_both (leb r.high r.low) (is_single rs) s in
    let le : r.high ≤ r.low = grind (arith, nat_tests, a.0) in
    let same : x ≡ r.low = omega (arith, h.0, h.1, le) in
    let rest = single_lows rs xs a.1 h.2 in
    cc (same, rest)

pub some_box : (o : Option (List Run)) → IsSome o → (b : List Run) × (o ≡ Some b)
some_box None h = cc
some_box (Some b) h = (b, refl)

pub path_positive : (vs : List VarShape) (p : ℕ) → IsSome (box_of vs p) → 1 ≤ p
path_positive vs p h = let b = some_box (box_of vs p) h in omega (arith, positive vs p b.0 b.1)

pub path_short : (vs : List VarShape) (p : ℕ) → IsShape vs → IsSome (box_of vs p) → p < 2 ^ 127
path_short vs p s h = let b = some_box (box_of vs p) h in path_below vs p b.0 s b.1
