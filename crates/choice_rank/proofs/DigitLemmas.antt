-- The digits of a choice, from the last place to the first.
use Rattle.std.proofs.Common.{◌≡◌, ℕ, ◌+◌, ◌-◌, ◌*◌, ◌/◌, ◌%◌, ◌<◌, ◌≤◌, List, ◌∷◌, length, drop, get_or, set, subst, ap, sym, ◌∙◌, arith}
use Rattle.std.proofs.lemmas.Nat.{mul-add-lt, mod-mul-add, div-add-mod', mod_below}
use Rattle.std.proofs.lemmas.List.{drop_more, drop-set, length-set}
use Rattle.std.proofs.Math.Nat.{div-div-eq-div-mul, mul_comm, mul_assoc}
use Rattle.choice_rank.specs.declared.variable.VarShape.{VarShape}
use Rattle.choice_rank.specs.Choices.{IsChoice, choices_of, index_of, HasPositions}
use Rattle.choice_rank.proofs.ChoiceLemmas.{nothing, choices_more, choices_pos, positions_at, positions_drop}

-- a digit of the place s above what is below p
pub mod_place : (n s p : ℕ) → 0 < s → 0 < p → n % (s * p) ≡ (n / p % s) * p + n % p
mod_place n s p hs hp =
    let q = n / p in
    let below = mul-add-lt (q % s) p (n % p) s (mod_below q s hs) (mod_below n p hp) in
    let lt : (q % s) * p + n % p < s * p = omega (arith, below) in
    let whole : n ≡ (q / s) * (s * p) + ((q % s) * p + n % p) =
    omega (arith, div-add-mod' n p, ap (λ m. m * p) (div-add-mod' q s), mul_assoc (q / s) s p) in
    ap (λ m. m % (s * p)) whole ∙ mod-mul-add (q / s) (s * p) ((q % s) * p + n % p) lt

pub div_place : (n s p : ℕ) → n / p / s ≡ n / (s * p)
div_place n s p = div-div-eq-div-mul n p s ∙ ap (λ m. n / m) (mul_comm p s)

-- what is known of the variables from n on
pub record Written (vs : List VarShape) (at : List ℕ) (rank rest n : ℕ) : Type 0 where
  pub same_length : length at ≡ length vs
  pub choice : IsChoice (drop n vs) (drop n at)
  pub index : index_of (drop n vs) (drop n at) ≡ rank % choices_of (drop n vs)
  pub rest_is : rest ≡ rank / choices_of (drop n vs)

pub size_pos : (vs : List VarShape) (n size : ℕ) → HasPositions vs → 0 < n → n ≤ length vs → size ≡ (get_or vs (n - 1) nothing).size → 0 < size
size_pos vs n size positions p q e = omega (arith, positions_at vs (n - 1) nothing positions (omega arith))

written_turn : (vs : List VarShape) (at : List ℕ) (rank rest k size : ℕ) → HasPositions vs → k < length vs → size ≡ (get_or vs k nothing).size → 0 < size → Written vs at rank rest (k + 1) → Written vs (set at k (rest % size)) rank (rest / size) k
written_turn vs at rank rest k size positions lt es ps w =
    let p = choices_of (drop (k + 1) vs) in
    let pp : 0 < p = choices_pos (drop (k + 1) vs) (positions_drop vs (k + 1) positions) in
    let at_lt : k < length at = omega (arith, w.same_length) in
    let d : drop k (set at k (rest % size)) ≡ rest % size ∷ drop (k + 1) at = drop-set at k (rest % size) at_lt in
    let dv = drop_more vs k nothing lt in
    let whole : choices_of (drop k vs) ≡ size * p = choices_more vs k nothing lt ∙ ap (λ s. s * p) (sym es) in
    record {
      same_length = omega (arith, length-set at k (rest % size), w.same_length);
      choice = rw (d, dv) (omega (arith, mod_below rest size ps), w.choice);
      index = ap (index_of (drop k vs)) d ∙ ap (λ l. index_of l (rest % size ∷ drop (k + 1) at)) dv
          ∙ ap (λ i. rest % size * p + i) w.index ∙ ap (λ r. r % size * p + rank % p) w.rest_is
          ∙ sym (ap (λ m. rank % m) whole ∙ mod_place rank size p ps pp);
      rest_is = ap (λ r. r / size) w.rest_is ∙ div_place rank size p ∙ sym (ap (λ m. rank / m) whole);
    }

pub written_back : (vs : List VarShape) (at : List ℕ) (rank rest n size : ℕ) → HasPositions vs → 0 < n → n ≤ length vs → size ≡ (get_or vs (n - 1) nothing).size → Written vs at rank rest n → Written vs (set at (n - 1) (rest % size)) rank (rest / size) (n - 1)
written_back vs at rank rest n size positions p q es w =
    let e : n ≡ n - 1 + 1 = omega arith in
    written_turn vs at rank rest (n - 1) size positions (omega arith) es (size_pos vs n size positions p q es) (subst (λ m. Written vs at rank rest m) e w)
