-- Paths are short: what is left to split in a box bounds its path.
use Rattle.std.proofs.Common.{◌≡◌, ℕ, zero, suc, ◌+◌, ◌*◌, ◌-◌, ◌/◌, ◌%◌, ◌^◌, ◌<◌, ◌≤◌, max, List, [], ◌∷◌, Bool, true, false, cond, eqb, leb, Option, Some, None, IfSome, refl, ap, ◌∙◌, subst, arith, inl, inr}
use Rattle.std.specs.Prelude.{option_and_then}
use Rattle.std.proofs.lemmas.Bool.Decides.{nat_tests, eqb_tells}
use Rattle.std.proofs.lemmas.Nat.{mul-le}
use Rattle.choice_rank.specs.declared.variable.VarShape.{VarShape}
use Rattle.choice_rank.specs.Choices.{choices_of, costs_most, HasPositions, IsShape}
use Rattle.box_split.specs.Boxes.{Run, whole, is_single}
use Rattle.box_split.specs.Paths.{cut_of, lower, upper, half, box_within, box_of}
use Rattle.box_split.proofs.RunLemmas.{lt_tells, not_first}

-- at least 2 to the number of splits that a run still takes
pub pot : Run → ℕ
pot r = cond (eqb r.low 0) ((r.high + 1) * (r.high + 1)) (max 1 (2 * (r.high - r.low)))

pub pots : List Run → ℕ
pots [] = 1
pots (r ∷ rs) = pot r * pots rs

square : (n : ℕ) → 4 * n ≤ n * n + 4
square zero = omega arith
square (suc zero) = omega arith
square (suc (suc n)) = omega arith

pot_first : (u : ℕ) → 0 < u → 2 * pot (record { low = 1; high = u }) ≤ (u + 1) * (u + 1)
unfolding pot
pot_first u h = omega (arith, square (u + 1), mul-le 2 2 (u + 1) (u + 1) (omega arith) (omega arith))

pot_later : (l u : ℕ) → suc l < u → (2 * pot (record { low = suc l; high = cut_of (record { low = suc l; high = u }) }) ≤ pot (record { low = suc l; high = u })) × (2 * pot (record { low = cut_of (record { low = suc l; high = u }) + 1; high = u }) ≤ pot (record { low = suc l; high = u }))
unfolding pot
pot_later l u h = (grind (arith, nat_tests), grind (arith, nat_tests))

pot_go : (l u : ℕ) → l < u → (2 * pot (record { low = l; high = cut_of (record { low = l; high = u }) }) ≤ pot (record { low = l; high = u })) × (2 * pot (record { low = cut_of (record { low = l; high = u }) + 1; high = u }) ≤ pot (record { low = l; high = u }))
unfolding pot
pot_go zero u h = (omega (arith, mul-le 2 2 (u + 1) (u + 1) (omega arith) (omega arith)), pot_first u h)
pot_go (suc l) u h = pot_later l u h

pot_halves : (r : Run) → r.low < r.high → (2 * pot (record { low = r.low; high = cut_of r }) ≤ pot r) × (2 * pot (record { low = cut_of r + 1; high = r.high }) ≤ pot r)
unfolding pot
pot_halves r h = pot_go r.low r.high h

pot_pos : (r : Run) → 1 ≤ pot r
unfolding pot
pot_pos r = grind (arith, nat_tests)

pots_pos : (rs : List Run) → 1 ≤ pots rs
unfolding pots
pots_pos [] = omega arith
pots_pos (r ∷ rs) = omega (arith, mul-le 1 1 (pot r) (pots rs) (pot_pos r) (pots_pos rs))

pub halves_pots : (rs : List Run) → is_single rs ≡ false → (2 * pots (lower rs) ≤ pots rs) × (2 * pots (upper rs) ≤ pots rs)
unfolding pots
halves_pots [] h = cc
halves_pots (r ∷ rs) h = elim (lt_tells r.low r.high) [
  | inl y ↦
      let c = pot_halves r y.1 in
      let a = mul-le (2 * pot (record { low = r.low; high = cut_of r })) (pots rs) (pot r) (pots rs) c.0 (omega arith) in
      let b = mul-le (2 * pot (record { low = cut_of r + 1; high = r.high })) (pots rs) (pot r) (pots rs) c.1 (omega arith) in
      rw y.0 (omega (arith, a), omega (arith, b))
  | inr n ↦
      let le : leb r.high r.low ≡ true = grind (arith, nat_tests, n.1) in
      let s = halves_pots rs (not_first (leb r.high r.low) (is_single rs) le h) in
      let a = mul-le (pot r) (2 * pots (lower rs)) (pot r) (pots rs) (omega arith) s.0 in
      let b = mul-le (pot r) (2 * pots (upper rs)) (pot r) (pots rs) (omega arith) s.1 in
      rw n.0 (omega (arith, a), omega (arith, b))
]

whole_pots : (vs : List VarShape) → HasPositions vs → pots (whole vs) ≡ choices_of vs * choices_of vs
unfolding pots pot
whole_pots [] h = refl
whole_pots (v ∷ vs) h =
    let e : v.size - 1 + 1 ≡ v.size = omega (arith, h.0) in
    let s : (v.size - 1 + 1) * (v.size - 1 + 1) ≡ v.size * v.size = ap (λ n. n * n) e in
    ap (λ n. n * pots (whole vs)) s ∙ ap (λ n. v.size * v.size * n) (whole_pots vs h.1) ∙ omega arith

Short : List VarShape → ℕ → List Run → Type 0
Short vs p rs = (p + 1) * pots rs ≤ 2 * pots (whole vs)

short_one : (vs : List VarShape) (q bit : ℕ) (rs new : List Run) → bit < 2 → 2 * pots new ≤ pots rs → Short vs q rs → Short vs (2 * q + bit) new
unfolding Short
short_one vs q bit rs new l h s =
    let a = mul-le (2 * q + bit + 1) (pots new) (2 * (q + 1)) (pots new) (omega arith) (omega arith) in
    let b = mul-le (q + 1) (2 * pots new) (q + 1) (pots rs) (omega arith) h in
    omega (arith, a, b)

short_half : (vs : List VarShape) (q bit : ℕ) (s b : Bool) (rs : List Run) → is_single rs ≡ s → bit < 2 → Short vs q rs → IfSome (cond s None (Some (cond b (lower rs) (upper rs)))) (Short vs (2 * q + bit))
short_half vs q bit true b rs e l h = tt
short_half vs q bit false true rs e l h = short_one vs q bit rs (lower rs) l (halves_pots rs e).0 h
short_half vs q bit false false rs e l h = short_one vs q bit rs (upper rs) l (halves_pots rs e).1 h

short_root : (vs : List VarShape) (p : ℕ) → p ≡ 1 → Short vs p (whole vs)
unfolding Short
short_root vs p e = rw e (omega arith)

short_next : (vs : List VarShape) (p : ℕ) (o : Option (List Run)) → IfSome o (Short vs (p / 2)) → IfSome (option_and_then (half (p % 2)) o) (Short vs p)
short_next vs p None h = tt
short_next vs p (Some rs) h =
    let e : 2 * (p / 2) + p % 2 ≡ p = omega arith in
    subst (λ q. IfSome (half (p % 2) rs) (Short vs q)) e (short_half vs (p / 2) (p % 2) (is_single rs) (eqb (p % 2) 0) rs refl (omega arith) h)

short_cases : (vs : List VarShape) (n p : ℕ) (o : Option (List Run)) → IfSome o (Short vs (p / 2)) → IfSome (cond (eqb p 1) (Some (whole vs)) (option_and_then (half (p % 2)) o)) (Short vs p)
short_cases vs n p o h = elim (eqb_tells p 1) [
  | inl y ↦ rw y.0 (short_root vs p y.1)
  | inr z ↦ rw z.0 (short_next vs p o h)
]

short_within : (vs : List VarShape) (n p : ℕ) → IfSome (box_within n vs p) (Short vs p)
short_within vs zero p = tt
short_within vs (suc n) p = short_cases vs n p (box_within n vs (p / 2)) (short_within vs n (p / 2))

pub path_below : (vs : List VarShape) (p : ℕ) (rs : List Run) → IsShape vs → box_of vs p ≡ Some rs → p < 2 ^ 127
unfolding box_of Short
path_below vs p rs nar e =
    let s = subst (λ (o : Option (List Run)). IfSome o (Short vs p)) e (short_within vs p p) in
    let w = whole_pots vs nar.positions in
    let c : choices_of vs ≤ 2 ^ 63 = omega (arith, nar.narrow, mul-le 1 (choices_of vs) (1 + costs_most vs) (choices_of vs) (omega arith) (omega arith)) in
    let cc2 = mul-le (choices_of vs) (choices_of vs) (2 ^ 63) (2 ^ 63) c c in
    let l = mul-le (p + 1) 1 (p + 1) (pots rs) (omega arith) (pots_pos rs) in
    omega (arith, s, w, cc2, l)
