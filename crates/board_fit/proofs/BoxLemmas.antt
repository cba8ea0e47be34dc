-- Boxes of clock variables with boxes of signals behind them.
use Rattle.std.proofs.Common.{◌≡◌, ℕ, zero, suc, ◌+◌, ◌-◌, ◌++◌, ◌&&◌, List, [], ◌∷◌, length, take, drop, Bool, true, false, leb, ltb, refl, ap, arith}
use Rattle.std.proofs.lemmas.Bool.Decides.{nat_tests}
use Rattle.choice_rank.specs.declared.variable.VarShape.{VarShape}
use Rattle.box_split.specs.Boxes.{IsBox, Run, highs, is_single, lows, whole}
use Rattle.box_split.specs.Paths.{lower, split_from, upper}

pub whole_join : (vs ws : List VarShape) → whole (vs ++ ws) ≡ whole vs ++ whole ws
whole_join [] ws = refl
whole_join (v ∷ vs) ws = ap (λ (rs : List Run). (let r : Run = record { low = 0; high = v.size - 1 } in r) ∷ rs) (whole_join vs ws)

pub lows_join : (fs bs : List Run) → lows (fs ++ bs) ≡ lows fs ++ lows bs
lows_join [] bs = refl
lows_join (r ∷ fs) bs = ap (λ (xs : List ℕ). r.low ∷ xs) (lows_join fs bs)

pub highs_join : (fs bs : List Run) → highs (fs ++ bs) ≡ highs fs ++ highs bs
highs_join [] bs = refl
highs_join (r ∷ fs) bs = ap (λ (xs : List ℕ). r.high ∷ xs) (highs_join fs bs)

pub lows_length : (rs : List Run) → length (lows rs) ≡ length rs
lows_length [] = refl
lows_length (r ∷ rs) = ap suc (lows_length rs)

pub highs_length : (rs : List Run) → length (highs rs) ≡ length rs
highs_length [] = refl
highs_length (r ∷ rs) = ap suc (highs_length rs)

pub take_join : (n : ℕ) (xs ys : List ℕ) → length xs ≡ n → take n (xs ++ ys) ≡ xs
take_join zero [] ys e = refl
take_join zero (x ∷ xs) ys e = absurd (omega (arith, e))
take_join (suc n) [] ys e = absurd (omega (arith, e))
take_join (suc n) (x ∷ xs) ys e = ap (λ (l : List ℕ). x ∷ l) (take_join n xs ys (omega (arith, e)))

pub drop_join : (n : ℕ) (fs bs : List Run) → length fs ≡ n → drop n (fs ++ bs) ≡ bs
drop_join zero [] bs e = refl
drop_join zero (r ∷ fs) bs e = absurd (omega (arith, e))
drop_join (suc n) [] bs e = absurd (omega (arith, e))
drop_join (suc n) (r ∷ fs) bs e = drop_join n fs bs (omega (arith, e))

pub box_length : (vs : List VarShape) (rs : List Run) → IsBox vs rs → length rs ≡ length vs
box_length [] [] h = refl
box_length [] (r ∷ rs) h = absurd h
box_length (v ∷ vs) [] h = absurd h
box_length (v ∷ vs) (r ∷ rs) h = ap suc (box_length vs rs h.2)

pub box_join : (vs ws : List VarShape) (fs bs : List Run) → IsBox vs fs → IsBox ws bs → IsBox (vs ++ ws) (fs ++ bs)
box_join [] ws [] bs h k = k
box_join [] ws (r ∷ fs) bs h k = absurd h
box_join (v ∷ vs) ws [] bs h k = absurd h
box_join (v ∷ vs) ws (r ∷ fs) bs h k = (h.0, h.1, box_join vs ws fs bs h.2 k)

-- ---- which of two positions is split

lt_of : (r : Run) → leb r.high r.low ≡ false → ltb r.low r.high ≡ true
lt_of r e = grind (arith, nat_tests, e)

not_lt_of : (r : Run) → leb r.high r.low ≡ true → ltb r.low r.high ≡ false
not_lt_of r e = grind (arith, nat_tests, e)

-- a fact of a box by its first run
by_first : (r : Run) (rs : List Run) (P : Type 0) → (leb r.high r.low && is_single rs) ≡ false → (leb r.high r.low ≡ false → P) → (leb r.high r.low ≡ true → is_single rs ≡ false → P) → P
by_first r rs P e one many = case (leb r.high r.low) refl e
  where
    case : (b : Bool) → leb r.high r.low ≡ b → (b && is_single rs) ≡ false → P
    case true q h = many q h
    case false q h = one q

pub not_single_join : (fs bs : List Run) → is_single fs ≡ false → is_single (fs ++ bs) ≡ false
not_single_join [] bs e = absurd cc
not_single_join (r ∷ fs) bs e = by_first r fs (is_single ((r ∷ fs) ++ bs) ≡ false) e (λ q. rw q refl) (λ q k. rw q (not_single_join fs bs k))

pub single_join : (fs bs : List Run) → is_single bs ≡ true → is_single (fs ++ bs) ≡ is_single fs
single_join [] bs e = e
single_join (r ∷ fs) bs e = ap (λ (b : Bool). leb r.high r.low && b) (single_join fs bs e)

pub split_join : (k : ℕ) (fs bs : List Run) → is_single fs ≡ false → split_from k (fs ++ bs) ≡ split_from k fs
split_join k [] bs e = absurd cc
split_join k (r ∷ fs) bs e =
    by_first r fs (split_from k ((r ∷ fs) ++ bs) ≡ split_from k (r ∷ fs)) e
    (λ q. let l = lt_of r q in rw l refl)
    (λ q h. let l = not_lt_of r q in rw l (split_join (k + 1) fs bs h))

pub lower_join : (fs bs : List Run) → is_single fs ≡ false → lower (fs ++ bs) ≡ lower fs ++ bs
lower_join [] bs e = absurd cc
lower_join (r ∷ fs) bs e =
    by_first r fs (lower ((r ∷ fs) ++ bs) ≡ lower (r ∷ fs) ++ bs) e
    (λ q. let l = lt_of r q in rw l refl)
    (λ q h. let l = not_lt_of r q in rw l (ap (λ (rs : List Run). r ∷ rs) (lower_join fs bs h)))

pub upper_join : (fs bs : List Run) → is_single fs ≡ false → upper (fs ++ bs) ≡ upper fs ++ bs
upper_join [] bs e = absurd cc
upper_join (r ∷ fs) bs e =
    by_first r fs (upper ((r ∷ fs) ++ bs) ≡ upper (r ∷ fs) ++ bs) e
    (λ q. let l = lt_of r q in rw l refl)
    (λ q h. let l = not_lt_of r q in rw l (ap (λ (rs : List Run). r ∷ rs) (upper_join fs bs h)))
