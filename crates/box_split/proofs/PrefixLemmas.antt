-- Prefixes of paths, and boxes that have a choice in common.
use Rattle.std.proofs.Common.{◌≡◌, ℕ, zero, suc, ◌+◌, ◌*◌, ◌/◌, ◌%◌, ◌^◌, ◌<◌, ◌≤◌, List, [], ◌∷◌, Bool, true, false, cond, eqb, leb, Option, Some, None, ◌⊎◌, inl, inr, refl, sym, ap, ◌∙◌, arith}
use Rattle.std.specs.Prelude.{option_and_then}
use Rattle.std.specs.Option.{option_map_or}
use Rattle.std.proofs.lemmas.Bool.Decides.{nat_tests}
use Rattle.std.proofs.lemmas.Nat.{shr-shr}
use Rattle.choice_rank.specs.declared.variable.VarShape.{VarShape}
use Rattle.res_base.specs.Sums.{one_if}
use Rattle.box_split.specs.Boxes.{Run, holds, is_single, lows, IsBox}
use Rattle.box_split.specs.Paths.{lower, upper, half, box_of, covers}
use Rattle.box_split.proofs.RunLemmas.{halved, halves_count, positive}
use Rattle.box_split.proofs.PathLemmas.{of_half}

-- a path is q, or lies below it
abbrev pub Under : ℕ → ℕ → Type 0
Under q p = (k : ℕ) × (p / 2 ^ k ≡ q)

pub half_again : (p j : ℕ) → p / 2 ^ (suc j) ≡ (p / 2 ^ j) / 2
half_again p j = ap (λ n. p / 2 ^ n) (omega arith) ∙ sym (shr-shr p j 1)

pub half_first : (p j : ℕ) → p / 2 ^ (suc j) ≡ (p / 2) / 2 ^ j
half_first p j = ap (λ n. p / 2 ^ n) (omega arith) ∙ sym (shr-shr p 1 j)

pub lows_held : (vs : List VarShape) (rs : List Run) → IsBox vs rs → holds rs (lows rs) ≡ true
lows_held [] [] h = refl
lows_held [] (r ∷ rs) h = absurd h
lows_held (v ∷ vs) [] h = absurd h
lows_held (v ∷ vs) (r ∷ rs) h =
    let a : leb r.low r.low ≡ true = grind (arith, nat_tests) in
    let b : leb r.low r.high ≡ true = grind (arith, nat_tests, h.0) in
    rw (a, b) (lows_held vs rs h.2)

-- the box that a path's box is half of
pub record Parent (vs : List VarShape) (p : ℕ) (box : List Run) : Type 0 where
  pub above : List Run
  pub at : box_of vs (p / 2) ≡ Some above
  pub not_single : is_single above ≡ false
  pub holds_more : (c : List ℕ) → holds box c ≡ true → holds above c ≡ true

low_more : (rs : List Run) (c : List ℕ) → is_single rs ≡ false → holds (lower rs) c ≡ true → holds rs c ≡ true
low_more rs c s h = sums (holds (lower rs) c) (holds (upper rs) c) (holds rs c) (halved rs c s) h
  where
    sums : (a b d : Bool) → one_if a + one_if b ≡ one_if d → a ≡ true → d ≡ true
    sums a b true e h = refl
    sums true true false e h = absurd (omega arith)
    sums true false false e h = absurd (omega arith)
    sums false b false e h = cc

high_more : (rs : List Run) (c : List ℕ) → is_single rs ≡ false → holds (upper rs) c ≡ true → holds rs c ≡ true
high_more rs c s h = sums (holds (lower rs) c) (holds (upper rs) c) (holds rs c) (halved rs c s) h
  where
    sums : (a b d : Bool) → one_if a + one_if b ≡ one_if d → b ≡ true → d ≡ true
    sums a b true e h = refl
    sums true true false e h = absurd (omega arith)
    sums false true false e h = absurd (omega arith)
    sums a false false e h = cc

pub same_box : (a b : List Run) → ◌≡◌ {A = Option (List Run)} (Some a) (Some b) → a ≡ b
same_box a b e = cc

pub parent : (vs : List VarShape) (p : ℕ) (box : List Run) → 1 < p → box_of vs p ≡ Some box → Parent vs p box
parent vs p box h e = by_above (box_of vs (p / 2)) refl
  where
    by_single : (above : List Run) (s : Bool) → box_of vs (p / 2) ≡ Some above → is_single above ≡ s → option_and_then (half (p % 2)) (Some above) ≡ Some box → Parent vs p box
    by_single above true at s q = let z : ◌≡◌ {A = Option (List Run)} None (Some box) = rw s at q in cc
    by_single above false at s q = by_bit (eqb (p % 2) 0) (rw s at q)
      where
        by_bit : (b : Bool) → ◌≡◌ {A = Option (List Run)} (Some (cond b (lower above) (upper above))) (Some box) → Parent vs p box
        by_bit true q = let m = same_box (lower above) box q in record { above = above; at = at; not_single = s; holds_more = λ c k. low_more above c s (ap (λ b. holds b c) m ∙ k) }
        by_bit false q = let m = same_box (upper above) box q in record { above = above; at = at; not_single = s; holds_more = λ c k. high_more above c s (ap (λ b. holds b c) m ∙ k) }

    by_above : (o : Option (List Run)) → box_of vs (p / 2) ≡ o → Parent vs p box
    by_above None z = let q : ◌≡◌ {A = Option (List Run)} None (Some box) = ap (option_and_then (half (p % 2))) (sym z) ∙ (sym (of_half vs p h) ∙ e) in cc
    by_above (Some above) z = by_single above (is_single above) z refl (ap (option_and_then (half (p % 2))) (sym z) ∙ (sym (of_half vs p h) ∙ e))

-- the box of a prefix holds what the path's box holds
pub record Higher (vs : List VarShape) (p : ℕ) (box : List Run) : Type 0 where
  pub higher : List Run
  pub at : box_of vs p ≡ Some higher
  pub holds_more : (c : List ℕ) → holds box c ≡ true → holds higher c ≡ true

pub prefix : (vs : List VarShape) (p k : ℕ) (box : List Run) → box_of vs p ≡ Some box → 0 < p / 2 ^ k → Higher vs (p / 2 ^ k) box
prefix vs p zero box e h = record { higher = box; at = ap (box_of vs) (omega arith) ∙ e; holds_more = λ c i. i }
prefix vs p (suc k) box e h =
    let s = half_again p k in
    let up = prefix vs p k box e (omega arith) in
    let par = parent vs (p / 2 ^ k) up.higher (omega arith) up.at in
    record { higher = par.above; at = ap (box_of vs) s ∙ par.at; holds_more = λ c i. par.holds_more c (up.holds_more c i) }

under_one : (n p : ℕ) → p ≤ n → 0 < p → Under 1 p
under_one zero p l h = absurd (omega arith)
under_one (suc n) p l h = elim (two p h) [
  | inl o ↦ (0, omega arith)
  | inr m ↦ let r = under_one n (p / 2) (omega arith) (omega arith) in (suc r.0, half_first p r.0 ∙ r.1)
]
  where
    two : (p : ℕ) → 0 < p → (p ≡ 1) ⊎ (1 < p)
    two zero h = absurd (omega arith)
    two (suc zero) h = inl refl
    two (suc (suc n)) h = inr (omega arith)

pub one_or_more : (p : ℕ) → 0 < p → (p ≡ 1) ⊎ (1 < p)
one_or_more zero h = absurd (omega arith)
one_or_more (suc zero) h = inl refl
one_or_more (suc (suc n)) h = inr (omega arith)

pub counted : (vs : List VarShape) (c : List ℕ) (p : ℕ) (box : List Run) → box_of vs p ≡ Some box → holds box c ≡ true → covers vs p c ≡ 1
counted vs c p box e h =
    let F : Option (List Run) → ℕ = λ o. option_map_or (λ b. one_if (holds b c)) o 0 in
    let one : ◌≡◌ {A = ℕ} (one_if (holds box c)) 1 = rw h refl in
    ap F e ∙ one

pub count_most : (vs : List VarShape) (c : List ℕ) (p : ℕ) → covers vs p c ≤ 1
count_most vs c p = most (box_of vs p)
  where
    bit : (b : Bool) → one_if b ≤ 1
    bit true = omega arith
    bit false = omega arith

    most : (o : Option (List Run)) → option_map_or (λ b. one_if (holds b c)) o 0 ≤ 1
    most None = omega arith
    most (Some b) = bit (holds b c)

-- the two halves of a box have no choice in common
not_both : (vs : List VarShape) (c : List ℕ) (q r p : ℕ) (above br bp : List Run) → box_of vs q ≡ Some above → is_single above ≡ false → r / 2 ≡ q → p / 2 ≡ q → (r ≡ p → ⊥) → box_of vs r ≡ Some br → box_of vs p ≡ Some bp → holds br c ≡ true → holds bp c ≡ true → ⊥
not_both vs c q r p above br bp eq s hr hp ne er ep ir ip = bits (r % 2) (p % 2) refl refl
  where
    bits : (x y : ℕ) → r % 2 ≡ x → p % 2 ≡ y → ⊥
    bits zero zero ex ey = ne (omega arith)
    bits zero (suc y) ex ey =
        let a : r ≡ 2 * q = omega arith in
        let b : p ≡ 2 * q + 1 = omega arith in
        absurd (omega (arith, halves_count vs q above eq s c, count_most vs c q, ap (λ n. covers vs n c) a, ap (λ n. covers vs n c) b, counted vs c r br er ir, counted vs c p bp ep ip))
    bits (suc x) zero ex ey =
        let a : r ≡ 2 * q + 1 = omega arith in
        let b : p ≡ 2 * q = omega arith in
        absurd (omega (arith, halves_count vs q above eq s c, count_most vs c q, ap (λ n. covers vs n c) a, ap (λ n. covers vs n c) b, counted vs c r br er ir, counted vs c p bp ep ip))
    bits (suc x) (suc y) ex ey = ne (omega arith)

same_or_not : (a b : ℕ) → (a ≡ b) ⊎ (a ≡ b → ⊥)
same_or_not a b = grind arith

-- paths whose boxes have a choice in common: one lies on the way to the other
pub comparable : (n : ℕ) (vs : List VarShape) (c : List ℕ) (p q : ℕ) (b d : List Run) → p ≤ n → box_of vs p ≡ Some b → box_of vs q ≡ Some d → holds b c ≡ true → holds d c ≡ true → Under p q ⊎ Under q p
comparable zero vs c p q b d l ep eq ip iq = absurd (omega (arith, positive vs p b ep))
comparable (suc n) vs c p q b d l ep eq ip iq = elim (one_or_more p (positive vs p b ep)) [
  | inl o ↦ let u = under_one q q (omega arith) (positive vs q d eq) in inl (u.0, u.1 ∙ sym o)
  | inr m ↦
      let par = parent vs p b m ep in
      elim (comparable n vs c (p / 2) q par.above d (omega arith) par.at eq (par.holds_more c ip) iq) [
        | inl u ↦ below par u.0 u.1
        | inr u ↦ inr (suc u.0, half_first p u.0 ∙ u.1)
      ]
]
  where
    below : (par : Parent vs p b) (k : ℕ) → q / 2 ^ k ≡ p / 2 → Under p q ⊎ Under q p
    below par zero u = inr (1, omega arith)
    below par (suc j) u =
        let r = q / 2 ^ j in
        let h : r / 2 ≡ p / 2 = sym (half_again q j) ∙ u in
        let pos : 0 < p / 2 = positive vs (p / 2) par.above par.at in
        let up = prefix vs q j d eq (omega arith) in
        elim (same_or_not r p) [
          | inl s ↦ inl (j, s)
          | inr ne ↦ absurd (not_both vs c (p / 2) r p par.above up.higher b par.at par.not_single h refl ne up.at ep (up.holds_more c iq) ip)
        ]
