-- The values of each clock variable are of its domain.
use Rattle.std.proofs.Common.{◌≡◌, ℕ, zero, suc, ◌+◌, ◌-◌, ◌<◌, ◌≤◌, ◌==◌, List, [], ◌∷◌, length, Bool, true, false, inl, inr, refl, arith}
use Rattle.std.proofs.lemmas.Bool.Decides.{nat_tests}
use Rattle.std.specs.Prelude.{Ok, nat_lt, nat_le, ◌&&◌}
use Rattle.res_base.specs.Lists.{Each, Member}
use Rattle.res_base.proofs.ListLemmas.{each_map}
use Rattle.ioc_project.specs.Project.{domain_tests, all_within, is_among, is_within}
use Rattle.res_model.specs.declared.project.Home.{Home}
use Rattle.res_model.specs.declared.table.TableParts.{TableParts}
use Rattle.problem.specs.ClockValues.{numbers_from, between, clock_domains, clock_values}
use Rattle.problem.specs.Problem.{AreFrom}
use Rattle.problem.proofs.ValueLemmas.{within_values}

among : (v : ℕ) (d : List ℕ) → is_among d v ≡ true → Member v d
among v [] e = absurd cc
among v (x ∷ xs) e = case (x == v) refl (among v xs)
  where
    case : (b : Bool) → (x == v) ≡ b → (is_among xs v ≡ true → Member v xs) → Member v (x ∷ xs)
    case true q rest = let same : v ≡ x = grind (arith, nat_tests, q) in inl same
    case false q rest = inr (rest (rw q at e))

row_member : (v count first : ℕ) → first ≤ v → v < first + count → Member v (numbers_from count first)
row_member v zero first l h = absurd (omega (arith, l, h))
row_member v (suc count) first l h = case (v == first) refl (λ above. row_member v count (first + 1) (omega (arith, above)) (omega (arith, h)))
  where
    case : (b : Bool) → (v == first) ≡ b → (first < v → Member v (numbers_from count (first + 1))) → Member v (numbers_from (suc count) first)
    case true q rest = let same : v ≡ first = grind (arith, nat_tests, q) in inl same
    case false q rest = let above : first < v = grind (arith, nat_tests, q, l) in inr (rest above)

within_range : (v : ℕ) (range : ℕ × ℕ) → is_within range v ≡ true → Member v (between range)
within_range v range e = case (nat_le range.0 v) (nat_le v range.1) refl refl e
  where
    case : (a b : Bool) → nat_le range.0 v ≡ a → nat_le v range.1 ≡ b → (a && b) ≡ true → Member v (between range)
    case true true p q h =
        let above : range.0 ≤ v = grind (arith, nat_tests, p) in
        let below : v ≤ range.1 = grind (arith, nat_tests, q) in
        row_member v (range.1 + 1 - range.0) range.0 above (omega (arith, above, below))
    case true false p q h = absurd cc
    case false b p q h = absurd cc

below : (v count : ℕ) → nat_lt v count ≡ true → Member v (numbers_from count 0)
below v count e = let l : v < count = grind (arith, nat_tests, e) in row_member v count 0 (omega arith) (omega (arith, l))

-- what passes a test is of the domain
abbrev AreTestsOf : List (ℕ → Bool) → List (List ℕ) → Type 0
AreTestsOf [] [] = Unit {0}
AreTestsOf [] (d ∷ ds) = ⊥
AreTestsOf (t ∷ ts) [] = ⊥
AreTestsOf (t ∷ ts) (d ∷ ds) = ((v : ℕ) → t v ≡ true → Member v d) × AreTestsOf ts ds

tests_of : (t : TableParts) → AreTestsOf (domain_tests t.clock) (clock_domains t)
unfolding clock_domains
tests_of t = (
  λ v e. below v 3 e,
  (
    λ v e. below v 2 e,
    (
      λ v e. among v t.clock.hpre e,
      (
        λ v e. among v t.clock.p e,
        (
          λ v e. within_range v t.clock.m e,
          (
            λ v e. within_range v t.clock.n e,
            (
              λ v e. within_range v t.clock.q e,
              (
                λ v e. among v t.clock.ppre1 e,
                (
                  λ v e. among v t.clock.ppre2 e,
                  (
                    λ v e. among v t.clock.vos e,
                    tt,
                  ),
                ),
              ),
            ),
          ),
        ),
      ),
    ),
  ),
)

-- each home is of its domain
abbrev pub AreHomesOf : List (List ℕ) → List Home → Type 0
AreHomesOf [] [] = Unit {0}
AreHomesOf [] (h ∷ hs) = ⊥
AreHomesOf (d ∷ ds) [] = ⊥
AreHomesOf (d ∷ ds) (h ∷ hs) = Member h.value d × AreHomesOf ds hs

homes_of : (ts : List (ℕ → Bool)) (ds : List (List ℕ)) (hs : List Home) → AreTestsOf ts ds → length hs ≡ length ts → all_within ts hs ≡ Ok tt → AreHomesOf ds hs
homes_of [] [] [] k n e = tt
homes_of [] [] (h ∷ hs) k n e = absurd (omega (arith, n))
homes_of [] (d ∷ ds) hs k n e = absurd k
homes_of (t ∷ ts) [] hs k n e = absurd k
homes_of (t ∷ ts) (d ∷ ds) [] k n e = absurd (omega (arith, n))
homes_of (t ∷ ts) (d ∷ ds) (h ∷ hs) k n e = case (t h.value) refl (homes_of ts ds hs k.1 (omega (arith, n)))
  where
    case : (b : Bool) → t h.value ≡ b → (all_within ts hs ≡ Ok tt → AreHomesOf ds hs) → AreHomesOf (d ∷ ds) (h ∷ hs)
    case true q rest = (k.0 h.value q, rest (rw q at e))
    case false q rest = let f = rw q at e in absurd cc

pub homes_due : (t : TableParts) (hs : List Home) → length hs ≡ 10 → all_within (domain_tests t.clock) hs ≡ Ok tt → AreHomesOf (clock_domains t) hs
homes_due t hs ten e = homes_of (domain_tests t.clock) (clock_domains t) hs (tests_of t) ten e

-- ---- values

each_later : (x : ℕ) (xs ys : List ℕ) → Each (λ v. Member v xs) ys → Each (λ v. Member v (x ∷ xs)) ys
each_later x xs ys h = each_map (λ v. Member v xs) (λ v. Member v (x ∷ xs)) ys (λ v m. inr m) h

own_members : (xs : List ℕ) → Each (λ v. Member v xs) xs
own_members [] = tt
own_members (x ∷ xs) = (inl refl, each_later x xs xs (own_members xs))

pub values_from_domains : (fixed : Bool) (ds : List (List ℕ)) (hs : List Home) → length hs ≡ length ds → (fixed ≡ true → AreHomesOf ds hs) → AreFrom (clock_values fixed ds hs) ds
values_from_domains fixed [] hs n f = tt
values_from_domains fixed (d ∷ ds) [] n f = absurd (omega (arith, n))
values_from_domains fixed (d ∷ ds) (h ∷ hs) n f = (within_values (λ v. Member v d) fixed h.value d (own_members d) (λ e. (f e).0), values_from_domains fixed ds hs (omega (arith, n)) (λ e. (f e).1))
