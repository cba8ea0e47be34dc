-- How many values the variables have, and within what.
use Rattle.std.proofs.Common.{◌≡◌, ℕ, zero, suc, ◌+◌, ◌-◌, ◌<◌, ◌≤◌, ◌++◌, ◌==◌, List, [], ◌∷◌, length, Bool, true, false, not, cond, append_assoc, length-append, refl, sym, subst, ap, ◌∙◌, arith}
use Rattle.std.proofs.lemmas.Bool.Decides.{nat_tests}
use Rattle.std.proofs.lemmas.List.Filters.{length-filter_both}
use Rattle.std.specs.Prelude.{filter, slice_index_or, Ok, nat_lt, nat_le, ◌&&◌}
use Rattle.res_base.specs.Lists.{Each, Member, Pairwise}
use Rattle.res_base.proofs.ListLemmas.{each_map, each_in}
use Rattle.choice_rank.specs.Choices.{HasPositions, HasSmallSizes}
use Rattle.res_model.specs.Clock.{IsBetween}
use Rattle.ioc_project.specs.Project.{domain_tests, all_within, is_among, is_within}
use Rattle.clock_limits.specs.Ranges.{AreInRange, values_at}
use Rattle.res_model.specs.ClockValues.{ahb_dividers, apb_dividers, pll_dividers, known_steps}
use Rattle.res_model.specs.Valid.{AreDomains, AreAmong, IsRange}
use Rattle.res_model.specs.declared.project.Home.{Home}
use Rattle.res_model.specs.declared.table.TableParts.{TableParts}
use Rattle.problem.specs.Problem.{HaveValues}
use Rattle.problem.specs.ClockValues.{numbers_from, between, clock_domains, is_home, home_first, values_with, clock_values, clock_variables, nowhere}

both_parts : (home : ℕ) (d : List ℕ) → length (home_first home d) ≡ length d
both_parts home d = length-append (filter (is_home home) d) (filter (λ v. not (is_home home v)) d) ∙ length-filter_both (is_home home) (λ v. not (is_home home v)) (λ x. refl) d

pub few_values : (fixed : Bool) (home : ℕ) (d : List ℕ) → length d ≤ 512 → length (values_with fixed home d) ≤ 512
few_values true home d h = omega arith
few_values false home d h = omega (arith, both_parts home d)

some_value : (fixed : Bool) (home : ℕ) (d : List ℕ) → 1 ≤ length d → 1 ≤ length (values_with fixed home d)
some_value true home d h = omega arith
some_value false home d h = omega (arith, both_parts home d)

-- ---- within

each_filter : (P : ℕ → Type 0) (p : ℕ → Bool) (d : List ℕ) → Each P d → Each P (filter p d)
each_filter P p [] h = tt
each_filter P p (x ∷ xs) h = case (p x) (each_filter P p xs h.1)
  where
    case : (b : Bool) → Each P (filter p xs) → Each P (cond b (x ∷ filter p xs) (filter p xs))
    case true rest = (h.0, rest)
    case false rest = rest

each_append : (P : ℕ → Type 0) (xs ys : List ℕ) → Each P xs → Each P ys → Each P (xs ++ ys)
each_append P [] ys h k = k
each_append P (x ∷ xs) ys h k = (h.0, each_append P xs ys h.1 k)

pub within_values : (P : ℕ → Type 0) (fixed : Bool) (home : ℕ) (d : List ℕ) → Each P d → (fixed ≡ true → P home) → Each P (values_with fixed home d)
within_values P true home d h f = (f refl, tt)
within_values P false home d h f = each_append P (filter (is_home home) d) (filter (λ v. not (is_home home v)) d) (each_filter P (is_home home) d h) (each_filter P (λ v. not (is_home home v)) d h)

-- ---- domains

-- a domain has values, and not too many, within bounds
pub record IsDomain (span : ℕ × ℕ) (d : List ℕ) : Type 0 where
  pub some : 1 ≤ length d
  pub few : length d ≤ 512
  pub within : Each (IsBetween span.0 span.1) d

length_row : (count first : ℕ) → length (numbers_from count first) ≡ count
length_row zero first = refl
length_row (suc count) first = ap suc (length_row count (first + 1))

row_within : (low high count first : ℕ) → low ≤ first → first + count ≤ high + 1 → Each (IsBetween low high) (numbers_from count first)
row_within low high zero first l h = tt
row_within low high (suc count) first l h = ((l, omega arith), row_within low high count (first + 1) (omega arith) (omega arith))

between_domain : (low high : ℕ) (range : ℕ × ℕ) → high ≤ 511 → IsRange low high range → IsDomain (low, high) (between range)
between_domain low high range top r = record {
  some = omega (arith, length_row (range.1 + 1 - range.0) range.0, r.least, r.ordered, r.greatest);
  few = omega (arith, length_row (range.1 + 1 - range.0) range.0, r.least, r.ordered, r.greatest);
  within = row_within low high (range.1 + 1 - range.0) range.0 r.least (omega (arith, r.ordered, r.greatest));
}

-- an ascending list within bounds is no longer than they are wide
short_above : (low high : ℕ) (ns : List ℕ) → Each (IsBetween low high) ns → Pairwise ◌<◌ ns → length ns ≤ high + 1 - low
short_above low high [] h p = omega arith
short_above low high (n ∷ ns) h p = omega (arith, h.0.0, h.0.1, short_above (n + 1) high ns (rest ns h.1 p.0) p.1)
  where
    rest : (xs : List ℕ) → Each (IsBetween low high) xs → Each (λ x. n < x) xs → Each (IsBetween (n + 1) high) xs
    rest [] a b = tt
    rest (x ∷ xs) a b = ((omega (arith, b.0), a.0.1), rest xs a.1 b.1)

member_some : (n : ℕ) (ns : List ℕ) → Member n ns → 1 ≤ length ns
member_some n [] m = absurd m
member_some n (x ∷ xs) m = omega arith

among_domain : (low high : ℕ) (these ns : List ℕ) → 1 ≤ low → high ≤ 512 → Each (IsBetween low high) these → AreAmong these ns → 1 ≤ length ns → IsDomain (low, high) ns
among_domain low high these ns l h within a some =
    let inside = each_map (λ n. Member n these) (IsBetween low high) ns (λ n m. each_in (IsBetween low high) n these within m) a.known in
    record { some = some; few = omega (arith, short_above low high ns inside a.ascending); within = inside }

ahb_within : Each (IsBetween 1 512) ahb_dividers
ahb_within = ((omega arith, omega arith), ((omega arith, omega arith), ((omega arith, omega arith), ((omega arith, omega arith), ((omega arith, omega arith), ((omega arith, omega arith), ((omega arith, omega arith), ((omega arith, omega arith), ((omega arith, omega arith), tt)))))))))

apb_within : Each (IsBetween 1 16) apb_dividers
apb_within = ((omega arith, omega arith), ((omega arith, omega arith), ((omega arith, omega arith), ((omega arith, omega arith), ((omega arith, omega arith), tt)))))

pll_within : Each (IsBetween 2 8) pll_dividers
pll_within = ((omega arith, omega arith), ((omega arith, omega arith), ((omega arith, omega arith), ((omega arith, omega arith), tt))))

steps_if : (b : Bool) → Each (IsBetween 1 5) (cond b (1 ∷ 2 ∷ []) (1 ∷ 2 ∷ 3 ∷ 4 ∷ 5 ∷ []))
steps_if true = ((omega arith, omega arith), ((omega arith, omega arith), tt))
steps_if false = ((omega arith, omega arith), ((omega arith, omega arith), ((omega arith, omega arith), ((omega arith, omega arith), ((omega arith, omega arith), tt)))))

steps_within : (version : ℕ) → Each (IsBetween 1 5) (known_steps version)
steps_within version = steps_if (version == 1)

-- the widest bounds of each clock variable
abbrev pub spans : List (ℕ × ℕ)
spans = (0, 2) ∷ (0, 1) ∷ (1, 512) ∷ (2, 8) ∷ (2, 63) ∷ (50, 432) ∷ (2, 15) ∷ (1, 16) ∷ (1, 16) ∷ (1, 5) ∷ []

-- each list is a domain within its bounds
abbrev pub AreDomainsIn : List (ℕ × ℕ) → List (List ℕ) → Type 0
AreDomainsIn [] [] = Unit {0}
AreDomainsIn [] (d ∷ ds) = ⊥
AreDomainsIn (s ∷ ss) [] = ⊥
AreDomainsIn (s ∷ ss) (d ∷ ds) = IsDomain s d × AreDomainsIn ss ds

hpre_in : (t : TableParts) → AreDomains t.version t.clock → IsDomain (1, 512) t.clock.hpre
hpre_in t c = among_domain 1 512 ahb_dividers t.clock.hpre (omega arith) (omega arith) ahb_within c.hpre (member_some 1 t.clock.hpre c.hpre_one)

p_in : (t : TableParts) → AreDomains t.version t.clock → IsDomain (2, 8) t.clock.p
p_in t c = among_domain 2 8 pll_dividers t.clock.p (omega arith) (omega arith) pll_within c.p c.p_some

ppre1_in : (t : TableParts) → AreDomains t.version t.clock → IsDomain (1, 16) t.clock.ppre1
ppre1_in t c = among_domain 1 16 apb_dividers t.clock.ppre1 (omega arith) (omega arith) apb_within c.ppre1 (member_some 1 t.clock.ppre1 c.ppre1_one)

ppre2_in : (t : TableParts) → AreDomains t.version t.clock → IsDomain (1, 16) t.clock.ppre2
ppre2_in t c = among_domain 1 16 apb_dividers t.clock.ppre2 (omega arith) (omega arith) apb_within c.ppre2 (member_some 1 t.clock.ppre2 c.ppre2_one)

vos_in : (t : TableParts) → AreDomains t.version t.clock → IsDomain (1, 5) t.clock.vos
vos_in t c = among_domain 1 5 (known_steps t.version) t.clock.vos (omega arith) (omega arith) (steps_within t.version) c.vos (member_some 1 t.clock.vos c.vos_one)

pub domains_in : (t : TableParts) → AreDomains t.version t.clock → AreDomainsIn spans (clock_domains t)
unfolding clock_domains
domains_in t c = (
  record { some = omega arith; few = omega arith; within = ((omega arith, omega arith), ((omega arith, omega arith), ((omega arith, omega arith), tt))) },
  (
    record { some = omega arith; few = omega arith; within = ((omega arith, omega arith), ((omega arith, omega arith), tt)) },
    (
      hpre_in t c,
      (
        p_in t c,
        (
          between_domain 2 63 t.clock.m (omega arith) c.m,
          (
            between_domain 50 432 t.clock.n (omega arith) c.n,
            (
              between_domain 2 15 t.clock.q (omega arith) c.q,
              (
                ppre1_in t c,
                (
                  ppre2_in t c,
                  (
                    vos_in t c,
                    tt,
                  ),
                ),
              ),
            ),
          ),
        ),
      ),
    ),
  ),
)

pub row_next : (last n : ℕ) (v : List ℕ) → n < last → (v ++ n ∷ []) ++ numbers_from (last - (n + 1)) (n + 1) ≡ v ++ numbers_from (last - n) n
row_next last n v l =
    let one : last - n ≡ suc (last - (n + 1)) = omega arith in
    append_assoc v (n ∷ []) (numbers_from (last - (n + 1)) (n + 1)) ∙ ap (λ (count : ℕ). v ++ numbers_from count n) (sym one)

-- ---- homes

-- what passes a test lies within bounds
abbrev pub AreTestsIn : List (ℕ × ℕ) → List (ℕ → Bool) → Type 0
AreTestsIn [] [] = Unit {0}
AreTestsIn [] (t ∷ ts) = ⊥
AreTestsIn (s ∷ ss) [] = ⊥
AreTestsIn (s ∷ ss) (t ∷ ts) = ((v : ℕ) → t v ≡ true → IsBetween s.0 s.1 v) × AreTestsIn ss ts

among_within : (low high : ℕ) (d : List ℕ) → Each (IsBetween low high) d → (v : ℕ) → is_among d v ≡ true → IsBetween low high v
among_within low high [] h v e = absurd cc
among_within low high (x ∷ xs) h v e = case (x == v) refl (among_within low high xs h.1 v)
  where
    case : (b : Bool) → (x == v) ≡ b → (is_among xs v ≡ true → IsBetween low high v) → IsBetween low high v
    case true q rest = let same : x ≡ v = grind (arith, nat_tests, q) in subst (IsBetween low high) same h.0
    case false q rest = rest (rw q at e)

range_within : (low high : ℕ) (range : ℕ × ℕ) → IsRange low high range → (v : ℕ) → is_within range v ≡ true → IsBetween low high v
range_within low high range r v e = case (nat_le range.0 v) (nat_le v range.1) refl refl e
  where
    case : (a b : Bool) → nat_le range.0 v ≡ a → nat_le v range.1 ≡ b → (a && b) ≡ true → IsBetween low high v
    case true true p q h =
        let above : range.0 ≤ v = grind (arith, nat_tests, p) in
        let below : v ≤ range.1 = grind (arith, nat_tests, q) in
        (omega (arith, r.least, above), omega (arith, r.greatest, below))
    case true false p q h = absurd cc
    case false b p q h = absurd cc

below_within : (high : ℕ) (v : ℕ) → nat_lt v (high + 1) ≡ true → IsBetween 0 high v
below_within high v e = let l : v < high + 1 = grind (arith, nat_tests, e) in (omega arith, omega (arith, l))

pub tests_in : (t : TableParts) → AreDomains t.version t.clock → AreTestsIn spans (domain_tests t.clock)
tests_in t c = (
  λ v e. below_within 2 v e,
  (
    λ v e. below_within 1 v e,
    (
      among_within 1 512 t.clock.hpre (hpre_in t c).within,
      (
        among_within 2 8 t.clock.p (p_in t c).within,
        (
          range_within 2 63 t.clock.m c.m,
          (
            range_within 50 432 t.clock.n c.n,
            (
              range_within 2 15 t.clock.q c.q,
              (
                among_within 1 16 t.clock.ppre1 (ppre1_in t c).within,
                (
                  among_within 1 16 t.clock.ppre2 (ppre2_in t c).within,
                  (
                    among_within 1 5 t.clock.vos (vos_in t c).within,
                    tt,
                  ),
                ),
              ),
            ),
          ),
        ),
      ),
    ),
  ),
)

-- where all homes are within their domains, each lies within its bounds
abbrev pub AreHomesIn : List (ℕ × ℕ) → List Home → Type 0
AreHomesIn [] [] = Unit {0}
AreHomesIn [] (h ∷ hs) = ⊥
AreHomesIn (s ∷ ss) [] = ⊥
AreHomesIn (s ∷ ss) (h ∷ hs) = IsBetween s.0 s.1 h.value × AreHomesIn ss hs

pub homes_in : (ss : List (ℕ × ℕ)) (ts : List (ℕ → Bool)) (hs : List Home) → AreTestsIn ss ts → length hs ≡ length ts → all_within ts hs ≡ Ok tt → AreHomesIn ss hs
homes_in [] [] [] k n e = tt
homes_in [] [] (h ∷ hs) k n e = absurd (omega (arith, n))
homes_in [] (t ∷ ts) hs k n e = absurd k
homes_in (s ∷ ss) [] hs k n e = absurd k
homes_in (s ∷ ss) (t ∷ ts) [] k n e = absurd (omega (arith, n))
homes_in (s ∷ ss) (t ∷ ts) (h ∷ hs) k n e = case (t h.value) refl (homes_in ss ts hs k.1 (omega (arith, n)))
  where
    case : (b : Bool) → t h.value ≡ b → (all_within ts hs ≡ Ok tt → AreHomesIn ss hs) → AreHomesIn (s ∷ ss) (h ∷ hs)
    case true q rest = (k.0 h.value q, rest (rw q at e))
    case false q rest = let f = rw q at e in absurd cc

-- ---- the values of all

pub values_in : (fixed : Bool) (ss : List (ℕ × ℕ)) (ds : List (List ℕ)) (hs : List Home) → AreDomainsIn ss ds → length hs ≡ length ds → (fixed ≡ true → AreHomesIn ss hs) → AreDomainsIn ss (clock_values fixed ds hs)
values_in fixed [] [] hs k n f = tt
values_in fixed [] (d ∷ ds) hs k n f = absurd k
values_in fixed (s ∷ ss) [] hs k n f = absurd k
values_in fixed (s ∷ ss) (d ∷ ds) [] k n f = absurd (omega (arith, n))
values_in fixed (s ∷ ss) (d ∷ ds) (h ∷ hs) k n f = (
  record {
    some = some_value fixed h.value d k.0.some;
    few = few_values fixed h.value d k.0.few;
    within = within_values (IsBetween s.0 s.1) fixed h.value d k.0.within (λ e. (f e).0);
  },
  values_in fixed ss ds hs k.1 (omega (arith, n)) (λ e. (f e).1),
)

abbrev pub span_at : List (ℕ × ℕ) → ℕ → ℕ × ℕ
span_at ss k = slice_index_or ss k (0, 0)

pub within_at : (ss : List (ℕ × ℕ)) (ds : List (List ℕ)) (k : ℕ) → AreDomainsIn ss ds → Each (IsBetween (span_at ss k).0 (span_at ss k).1) (values_at ds k)
within_at [] [] k h = tt
within_at [] (d ∷ ds) k h = absurd h
within_at (s ∷ ss) [] k h = absurd h
within_at (s ∷ ss) (d ∷ ds) zero h = h.0.within
within_at (s ∷ ss) (d ∷ ds) (suc k) h = within_at ss ds k h.1

pub in_range : (ds : List (List ℕ)) → AreDomainsIn spans ds → AreInRange ds
in_range ds h = record {
  src = within_at spans ds 0 h;
  psrc = within_at spans ds 1 h;
  hpre = within_at spans ds 2 h;
  p = within_at spans ds 3 h;
  m = within_at spans ds 4 h;
  n = within_at spans ds 5 h;
  q = within_at spans ds 6 h;
  ppre1 = within_at spans ds 7 h;
  ppre2 = within_at spans ds 8 h;
}

pub as_many : (ss : List (ℕ × ℕ)) (ds : List (List ℕ)) → AreDomainsIn ss ds → length ds ≡ length ss
as_many [] [] h = refl
as_many [] (d ∷ ds) h = absurd h
as_many (s ∷ ss) [] h = absurd h
as_many (s ∷ ss) (d ∷ ds) h = ap suc (as_many ss ds h.1)

pub few_at : (ss : List (ℕ × ℕ)) (ds : List (List ℕ)) (k : ℕ) → AreDomainsIn ss ds → length (slice_index_or ds k []) ≤ 512
few_at [] [] k h = omega arith
few_at [] (d ∷ ds) k h = absurd h
few_at (s ∷ ss) [] k h = absurd h
few_at (s ∷ ss) (d ∷ ds) zero h = h.0.few
few_at (s ∷ ss) (d ∷ ds) (suc k) h = few_at ss ds k h.1

pub home_at : (ss : List (ℕ × ℕ)) (hs : List Home) (k : ℕ) → Each (λ (s : ℕ × ℕ). s.1 ≤ 512) ss → AreHomesIn ss hs → (slice_index_or hs k nowhere).value ≤ 512
home_at [] [] k l h = omega arith
home_at [] (x ∷ xs) k l h = absurd h
home_at (s ∷ ss) [] k l h = absurd h
home_at (s ∷ ss) (x ∷ xs) zero l h = omega (arith, h.0.1, l.0)
home_at (s ∷ ss) (x ∷ xs) (suc k) l h = home_at ss xs k l.1 h.1

pub spans_small : Each (λ (s : ℕ × ℕ). s.1 ≤ 512) spans
spans_small = (omega arith, (omega arith, (omega arith, (omega arith, (omega arith, (omega arith, (omega arith, (omega arith, (omega arith, (omega arith, tt))))))))))

-- ---- sizes of the variables

pub clock_positions : (fixed : Bool) (ss : List (ℕ × ℕ)) (ds : List (List ℕ)) (hs : List Home) → AreDomainsIn ss (clock_values fixed ds hs) → HasPositions (clock_variables fixed ds hs)
clock_positions fixed ss [] hs k = tt
clock_positions fixed ss (d ∷ ds) [] k = tt
clock_positions fixed [] (d ∷ ds) (h ∷ hs) k = absurd k
clock_positions fixed (s ∷ ss) (d ∷ ds) (h ∷ hs) k = (omega (arith, k.0.some), clock_positions fixed ss ds hs k.1)

pub clock_small : (fixed : Bool) (ss : List (ℕ × ℕ)) (ds : List (List ℕ)) (hs : List Home) → AreDomainsIn ss (clock_values fixed ds hs) → HasSmallSizes (clock_variables fixed ds hs)
clock_small fixed ss [] hs k = tt
clock_small fixed ss (d ∷ ds) [] k = tt
clock_small fixed [] (d ∷ ds) (h ∷ hs) k = absurd k
clock_small fixed (s ∷ ss) (d ∷ ds) (h ∷ hs) k = (omega (arith, k.0.few), clock_small fixed ss ds hs k.1)

pub clock_have : (fixed : Bool) (ds : List (List ℕ)) (hs : List Home) → HaveValues (clock_variables fixed ds hs) (clock_values fixed ds hs)
clock_have fixed [] hs = tt
clock_have fixed (d ∷ ds) [] = tt
clock_have fixed (d ∷ ds) (h ∷ hs) = (refl, clock_have fixed ds hs)

pub clock_length : (fixed : Bool) (ds : List (List ℕ)) (hs : List Home) → length (clock_variables fixed ds hs) ≡ length (clock_values fixed ds hs)
clock_length fixed [] hs = refl
clock_length fixed (d ∷ ds) [] = refl
clock_length fixed (d ∷ ds) (h ∷ hs) = ap suc (clock_length fixed ds hs)
