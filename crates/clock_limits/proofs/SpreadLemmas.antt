-- The least and the greatest of values.
use Rattle.std.proofs.Common.{◌≡◌, ℕ, zero, suc, ◌<◌, ◌≤◌, min, max, List, [], ◌∷◌, length, take, drop, get_or, ◌⊎◌, ⊎_elim, refl, subst, arith}
use Rattle.res_base.specs.Lists.{Each, Member}
use Rattle.res_model.specs.Clock.{IsBetween}
use Rattle.clock_limits.specs.Ranges.{least_from, least_of, greatest_from, greatest_of}

-- a value more is taken in
pub least_step : (v w : ℕ) (ws : List ℕ) → least_from (min v w) ws ≡ least_from v (w ∷ ws)
least_step v w [] = refl
least_step v w (x ∷ xs) = omega arith

pub greatest_step : (v w : ℕ) (ws : List ℕ) → greatest_from (max v w) ws ≡ greatest_from v (w ∷ ws)
greatest_step v w [] = refl
greatest_step v w (x ∷ xs) = omega arith

-- the first value twice is no more than once
twice_least : (v : ℕ) (vs : List ℕ) → least_from v (v ∷ vs) ≡ least_from v vs
twice_least v [] = omega arith
twice_least v (w ∷ ws) = omega arith

twice_greatest : (v : ℕ) (vs : List ℕ) → greatest_from v (v ∷ vs) ≡ greatest_from v vs
twice_greatest v [] = omega arith
twice_greatest v (w ∷ ws) = omega arith

pub least_whole : (vs : List ℕ) → 0 < length vs → least_from (get_or vs 0 0) vs ≡ least_of vs
least_whole [] some = absurd (omega arith)
least_whole (v ∷ vs) some = twice_least v vs

pub greatest_whole : (vs : List ℕ) → 0 < length vs → greatest_from (get_or vs 0 0) vs ≡ greatest_of vs
greatest_whole [] some = absurd (omega arith)
greatest_whole (v ∷ vs) some = twice_greatest v vs

from_below : (v : ℕ) (vs : List ℕ) → (least_from v vs ≤ v) × (v ≤ greatest_from v vs)
from_below v [] = (omega arith, omega arith)
from_below v (w ∷ ws) = (omega arith, omega arith)

pub least_below_greatest : (vs : List ℕ) → least_of vs ≤ greatest_of vs
least_below_greatest [] = omega arith
least_below_greatest (v ∷ vs) = let b = from_below v vs in omega (arith, b.0, b.1)

-- ---- the least is at most each value, and the greatest at least each
least_from_each : (v : ℕ) (vs : List ℕ) (x : ℕ) → (x ≡ v) ⊎ Member x vs → (least_from v vs ≤ x) × (x ≤ greatest_from v vs)
least_from_each v [] x among = ⊎_elim (λ e. (omega (arith, e), omega (arith, e))) (λ m. absurd m) among
least_from_each v (w ∷ ws) x among =
    ⊎_elim
    (λ e. (omega (arith, e), omega (arith, e)))
    (λ m. let r = least_from_each w ws x m in (omega (arith, r.0), omega (arith, r.1)))
    among

pub least_each : (vs : List ℕ) (x : ℕ) → Member x vs → least_of vs ≤ x
least_each [] x among = absurd among
least_each (v ∷ vs) x among = (least_from_each v vs x among).0

pub greatest_each : (vs : List ℕ) (x : ℕ) → Member x vs → x ≤ greatest_of vs
greatest_each [] x among = absurd among
greatest_each (v ∷ vs) x among = (least_from_each v vs x among).1

-- ---- and within what all values are within
from_between : (low high v : ℕ) (vs : List ℕ) → IsBetween low high v → Each (IsBetween low high) vs → IsBetween low high (least_from v vs) × IsBetween low high (greatest_from v vs)
from_between low high v [] is each = (is, is)
from_between low high v (w ∷ ws) is each =
    let r = from_between low high w ws each.0 each.1 in
    ((omega (arith, is.0, r.0.0), omega (arith, is.1, r.0.1)), (omega (arith, is.0, r.1.0), omega (arith, is.1, r.1.1)))

pub least_between : (low high : ℕ) (vs : List ℕ) → 0 < length vs → Each (IsBetween low high) vs → IsBetween low high (least_of vs)
least_between low high [] some each = absurd (omega arith)
least_between low high (v ∷ vs) some each = (from_between low high v vs each.0 each.1).0

pub greatest_between : (low high : ℕ) (vs : List ℕ) → 0 < length vs → Each (IsBetween low high) vs → IsBetween low high (greatest_of vs)
greatest_between low high [] some each = absurd (omega arith)
greatest_between low high (v ∷ vs) some each = (from_between low high v vs each.0 each.1).1

-- ---- parts of a list
pub each_take : {X : Type 0} (P : X → Type 0) (k : ℕ) (xs : List X) → Each P xs → Each P (take k xs)
each_take P zero xs each = tt
each_take P (suc k) [] each = tt
each_take P (suc k) (x ∷ xs) each = (each.0, each_take P k xs each.1)

pub each_drop : {X : Type 0} (P : X → Type 0) (k : ℕ) (xs : List X) → Each P xs → Each P (drop k xs)
each_drop P zero xs each = each
each_drop P (suc k) [] each = tt
each_drop P (suc k) (x ∷ xs) each = each_drop P k xs each.1

-- ---- one pass
pub least_on : (v i : ℕ) (vs : List ℕ) → i < length vs → least_from (min v (get_or vs i 0)) (drop (suc i) vs) ≡ least_from v (drop i vs)
least_on v i [] inside = absurd (omega arith)
least_on v zero (w ∷ ws) inside = least_step v w ws
least_on v (suc i) (w ∷ ws) inside = least_on v i ws (omega arith)

pub greatest_on : (v i : ℕ) (vs : List ℕ) → i < length vs → greatest_from (max v (get_or vs i 0)) (drop (suc i) vs) ≡ greatest_from v (drop i vs)
greatest_on v i [] inside = absurd (omega arith)
greatest_on v zero (w ∷ ws) inside = greatest_step v w ws
greatest_on v (suc i) (w ∷ ws) inside = greatest_on v i ws (omega arith)

drop_past : (i : ℕ) (vs : List ℕ) → length vs ≤ i → drop i vs ≡ []
drop_past zero [] h = refl
drop_past (suc i) [] h = refl
drop_past zero (w ∷ ws) h = absurd (omega arith)
drop_past (suc i) (w ∷ ws) h = drop_past i ws (omega arith)

pub least_end : (v i : ℕ) (vs : List ℕ) → 0 < length vs → length vs ≤ i → least_from v (drop i vs) ≡ least_from (get_or vs 0 0) vs → v ≡ least_of vs
least_end v i vs some past e =
    let last : least_from v [] ≡ least_from (get_or vs 0 0) vs = subst (λ (xs : List ℕ). least_from v xs ≡ least_from (get_or vs 0 0) vs) (drop_past i vs past) e in
    cc (least_whole vs some)

pub greatest_end : (v i : ℕ) (vs : List ℕ) → 0 < length vs → length vs ≤ i → greatest_from v (drop i vs) ≡ greatest_from (get_or vs 0 0) vs → v ≡ greatest_of vs
greatest_end v i vs some past e =
    let last : greatest_from v [] ≡ greatest_from (get_or vs 0 0) vs = subst (λ (xs : List ℕ). greatest_from v xs ≡ greatest_from (get_or vs 0 0) vs) (drop_past i vs past) e in
    cc (greatest_whole vs some)

-- within a list it does not matter what stands past its end
pub same_at : {X : Type 0} (xs : List X) (k : ℕ) (d e : X) → k < length xs → get_or xs k d ≡ get_or xs k e
same_at [] k d e inside = absurd (omega arith)
same_at (x ∷ xs) zero d e inside = refl
same_at (x ∷ xs) (suc k) d e inside = same_at xs k d e (omega arith)
