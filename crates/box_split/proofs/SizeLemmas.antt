-- How many choices lie in a box and in its halves.
use Rattle.std.proofs.Common.{◌≡◌, ◌+◌, ◌*◌, ◌-◌, ◌≤◌, List, [], ◌∷◌, true, false, leb, inl, inr, ap, arith}
use Rattle.std.proofs.lemmas.Bool.Decides.{nat_tests}
use Rattle.std.proofs.lemmas.Nat.{mul-le}
use Rattle.choice_rank.specs.declared.variable.VarShape.{VarShape}
use Rattle.box_split.specs.Boxes.{Run, IsBox, is_single, size_of}
use Rattle.box_split.specs.Paths.{cut_of, lower, upper}
use Rattle.box_split.proofs.RunLemmas.{lt_tells, cut_inside, not_first}

pub size_pos : (vs : List VarShape) (rs : List Run) → IsBox vs rs → 1 ≤ size_of rs
size_pos vs [] h = omega arith
size_pos [] (r ∷ rs) h = absurd h
size_pos (v ∷ vs) (r ∷ rs) h = omega (arith, mul-le 1 1 (r.high + 1 - r.low) (size_of rs) (omega (arith, h.0)) (size_pos vs rs h.2))

pub sizes : (rs : List Run) → is_single rs ≡ false → size_of (lower rs) + size_of (upper rs) ≡ size_of rs
sizes [] h = cc
sizes (r ∷ rs) h = elim (lt_tells r.low r.high) [
  | inl y ↦
      let c = cut_inside r y.1 in
      let e : (cut_of r + 1 - r.low) + (r.high + 1 - (cut_of r + 1)) ≡ r.high + 1 - r.low = omega (arith, c.0, c.1) in
      rw y.0 (omega (arith, ap (λ n. n * size_of rs) e))
  | inr n ↦
      let le : leb r.high r.low ≡ true = grind (arith, nat_tests, n.1) in
      let s = sizes rs (not_first (leb r.high r.low) (is_single rs) le h) in
      rw n.0 (omega (arith, ap (λ k. (r.high + 1 - r.low) * k) s))
]
