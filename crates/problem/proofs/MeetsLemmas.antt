-- That a choice meets the limits says that each of their sentences holds.
use Rattle.std.proofs.Common.{◌≡◌, ◌≢◌, ◌==◌, ◌||◌, ℕ, List, Bool, true, false, Option, Some, None, refl, arith}
use Rattle.std.proofs.lemmas.Bool.Decides.{nat_tests}
use Rattle.std.specs.Prelude.{is_none}
use Rattle.clock_limits.proofs.FractionLemmas.{and_left, and_right, both}
use Rattle.clock_limits.proofs.LeastLemmas.{broken_is_least}
use Rattle.clock_limits.specs.Laws.{IsLeastBroken}
use Rattle.pin_rules.proofs.FitLemmas.{fits_sentences, sentences_fit}
use Rattle.res_model.specs.Limits.{broken_limit, meets_limit}
use Rattle.res_model.specs.Placement.{fits, uses_at}
use Rattle.problem.specs.declared.parts.ProblemParts.{ProblemParts}
use Rattle.problem.specs.ClockValues.{clock_at}
use Rattle.problem.specs.Meets.{meets, Meets, places_of}

-- no limit is broken
pub none_broken : (met : ℕ → Bool) (o : Option ℕ) → IsLeastBroken met o → is_none o ≡ true → (k : ℕ) → met k ≡ true
none_broken met None h e k = h k
none_broken met (Some j) h e k = absurd cc

all_met : (met : ℕ → Bool) (o : Option ℕ) → IsLeastBroken met o → ((k : ℕ) → met k ≡ true) → is_none o ≡ true
all_met met None h f = refl
all_met met (Some j) h f = let t = f j in let e = h.1 in absurd cc

pub whole_is : (n : ℕ) (b : Bool) → (n == 0 || b) ≡ true → n ≢ 0 → b ≡ true
whole_is n b e m = case (n == 0) refl e
  where
    case : (c : Bool) → (n == 0) ≡ c → (c || b) ≡ true → b ≡ true
    case true q h = let none : n ≡ 0 = grind (arith, nat_tests, q) in absurd (m none)
    case false q h = h

pub part_is : (n : ℕ) (b : Bool) → (n ≢ 0 → b ≡ true) → (n == 0 || b) ≡ true
part_is n b f = case (n == 0) refl
  where
    case : (c : Bool) → (n == 0) ≡ c → (c || b) ≡ true
    case true q = refl
    case false q = f (λ e. let t : (n == 0) ≡ true = grind (arith, nat_tests, e) in absurd cc)

module _ (p : ProblemParts) (at : List ℕ) where
  broken : Option ℕ
  broken = broken_limit p.tables p.facts (clock_at p.clock at)

  pins : Bool
  pins = fits p.tables (uses_at p.uses (places_of p at))

  clocks : Bool
  clocks = p.first == 0 || is_none broken

  pub meets_says : meets p at ≡ true → Meets p at
  unfolding meets pins clocks broken
  meets_says e = record {
    pins = fits_sentences p.tables (uses_at p.uses (places_of p at)) (and_left pins clocks e);
    clocks = λ n. none_broken (meets_limit p.tables p.facts (clock_at p.clock at)) broken (broken_is_least p.tables p.facts (clock_at p.clock at)) (whole_is p.first (is_none broken) (and_right pins clocks e) n);
  }

  pub says_meets : Meets p at → meets p at ≡ true
  unfolding meets pins clocks broken
  says_meets m =
      both pins clocks (sentences_fit p.tables (uses_at p.uses (places_of p at)) m.pins)
      (part_is p.first (is_none broken) (λ n. all_met (meets_limit p.tables p.facts (clock_at p.clock at)) broken (broken_is_least p.tables p.facts (clock_at p.clock at)) (m.clocks n)))
