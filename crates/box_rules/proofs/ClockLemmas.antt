-- The clock values of a box, beside a choice in it.
use Rattle.std.proofs.Common.{◌≡◌, ℕ, zero, suc, ◌+◌, ◌-◌, ◌<◌, ◌≤◌, List, [], ◌∷◌, length, get_or, take, true, leb, inl, inr, refl, subst, arith}
use Rattle.std.specs.Prelude.{slice_range}
use Rattle.std.proofs.lemmas.Bool.Decides.{nat_tests}
use Rattle.res_base.specs.Lists.{Each, Member}
use Rattle.box_split.specs.Boxes.{Run, IsBox, LiesIn, highs, is_single, lows}
use Rattle.choice_rank.specs.declared.variable.VarShape.{VarShape}
use Rattle.problem.specs.ClockValues.{clock_at, clock_value}
use Rattle.problem.specs.Problem.{HaveValues}
use Rattle.res_model.specs.declared.clock.ClockBox.{ClockBox}
use Rattle.res_model.specs.Clock.{IsBetween}
use Rattle.clock_limits.specs.Ranges.{AreInRange, IsIn, run_of, values_at}
use Rattle.box_rules.proofs.ContestLemmas.{range_at, range_long}
use Rattle.box_rules.proofs.CountLemmas.{both}
use Rattle.res_model.specs.ClockValues.{source_number, source_of}

-- the run of a variable lies within its values, and the position of a choice within the run
pub record IsPlaced (lo hi : List ℕ) (values : List (List ℕ)) (choice : List ℕ) (k : ℕ) : Type 0 where
  pub ordered : get_or lo k 0 ≤ get_or hi k 0
  pub inside : get_or hi k 0 < length (get_or values k [])
  pub above : get_or lo k 0 ≤ get_or choice k 0
  pub below : get_or choice k 0 ≤ get_or hi k 0

pub placed_at : (n : ℕ) (vs : List VarShape) (rs : List Run) (values : List (List ℕ)) (choice : List ℕ) → IsBox vs rs → HaveValues (take n vs) values → LiesIn rs choice → (k : ℕ) → k < length values → IsPlaced (take n (lows rs)) (take n (highs rs)) values choice k
placed_at n vs rs [] choice b h l k i = absurd (omega arith)
placed_at zero vs rs (xs ∷ xss) choice b h l k i = absurd h
placed_at (suc n) [] rs (xs ∷ xss) choice b h l k i = absurd h
placed_at (suc n) (v ∷ vs) [] (xs ∷ xss) choice b h l k i = absurd b
placed_at (suc n) (v ∷ vs) (r ∷ rs) (xs ∷ xss) [] b h l k i = absurd l
placed_at (suc n) (v ∷ vs) (r ∷ rs) (xs ∷ xss) (x ∷ choice) b h l zero i =
    let within : r.high < length xs = omega (arith, b.1, h.0) in
    record { ordered = b.0; inside = within; above = l.0; below = l.1 }
placed_at (suc n) (v ∷ vs) (r ∷ rs) (xs ∷ xss) (x ∷ choice) b h l (suc k) i =
    let p = placed_at n vs rs xss choice b.2 h.1 l.2 k (omega arith) in
    record { ordered = p.ordered; inside = p.inside; above = p.above; below = p.below }

pub one_at : (n : ℕ) (vs : List VarShape) (rs : List Run) → IsBox vs rs → is_single rs ≡ true → (k : ℕ) → get_or (take n (lows rs)) k 0 ≡ get_or (take n (highs rs)) k 0
one_at zero vs rs b s k = refl
one_at (suc n) [] [] b s k = refl
one_at (suc n) [] (r ∷ rs) b s k = absurd b
one_at (suc n) (v ∷ vs) [] b s k = absurd b
one_at (suc n) (v ∷ vs) (r ∷ rs) b s zero =
    let one : leb r.high r.low ≡ true = (both (leb r.high r.low) (is_single rs) s).0 in
    let same : r.high ≤ r.low = grind (arith, nat_tests, one) in
    let equal : r.low ≡ r.high = omega (arith, same, b.0) in
    equal
one_at (suc n) (v ∷ vs) (r ∷ rs) b s (suc k) = one_at n vs rs b.2 (both (leb r.high r.low) (is_single rs) s).1 k

-- ---- the values of a choice in the box

member_at : (vs : List ℕ) (i : ℕ) → i < length vs → Member (get_or vs i 0) vs
member_at [] i l = absurd (omega arith)
member_at (v ∷ vs) zero l = inl refl
member_at (v ∷ vs) (suc i) l = inr (member_at vs i (omega arith))

member_run : (vs : List ℕ) (low high x : ℕ) → low ≤ x → x ≤ high → high < length vs → Member (get_or vs x 0) (slice_range vs low (high + 1))
member_run vs low high x o l k =
    let long = range_long vs low high (omega arith) k in
    subst (λ (v : ℕ). Member v (slice_range vs low (high + 1))) (range_at vs low high x 0 o l)
    (member_at (slice_range vs low (high + 1)) (x - low) (omega (arith, long)))

each_at : (P : ℕ → Type 0) (vs : List ℕ) (i : ℕ) → i < length vs → Each P vs → P (get_or vs i 0)
each_at P [] i l h = absurd (omega arith)
each_at P (v ∷ vs) zero l h = h.0
each_at P (v ∷ vs) (suc i) l h = each_at P vs i (omega arith) h.1

code_back : (n : ℕ) → n ≤ 2 → n ≡ source_number (source_of n)
code_back zero l = refl
code_back (suc zero) l = refl
code_back (suc (suc zero)) l = refl
code_back (suc (suc (suc n))) l = absurd (omega arith)

module _ (values : List (List ℕ)) (b : ClockBox) (choice : List ℕ) (in_range : AreInRange values) (placed : (k : ℕ) → k < 10 → IsPlaced b.lo b.hi values choice k) where
  has : (k : ℕ) → k < 10 → Member (clock_value values choice k) (run_of values b k)
  unfolding run_of
  has k l =
      let p = placed k l in
      member_run (get_or values k []) (get_or b.lo k 0) (get_or b.hi k 0) (get_or choice k 0) p.above p.below p.inside

  within : (k : ℕ) → k < 10 → get_or choice k 0 < length (values_at values k)
  within k l = let p = placed k l in omega (arith, p.below, p.inside)

  has_source : (k most : ℕ) → k < 10 → most ≤ 2 → Each (IsBetween 0 most) (values_at values k) → Member (source_number (source_of (clock_value values choice k))) (run_of values b k)
  has_source k most l small each =
      let h = each_at (IsBetween 0 most) (values_at values k) (get_or choice k 0) (within k l) each in
      subst (λ (v : ℕ). Member v (run_of values b k)) (code_back (clock_value values choice k) (omega (arith, h.1, small))) (has k l)

  -- the clocks of a choice in the box are in the box
  pub clock_in : IsIn (clock_at values choice) values b
  unfolding clock_at
  clock_in = record {
    src = has_source 0 2 (omega arith) (omega arith) in_range.src;
    psrc = has_source 1 1 (omega arith) (omega arith) in_range.psrc;
    hpre = has 2 (omega arith);
    p = has 3 (omega arith);
    m = has 4 (omega arith);
    n = has 5 (omega arith);
    q = has 6 (omega arith);
    ppre1 = has 7 (omega arith);
    ppre2 = has 8 (omega arith);
    vos = has 9 (omega arith);
  }
