-- The ranks of clocks whose signals stay always fit.
use Rattle.std.proofs.Common.{◌≡◌, ℕ, zero, suc, ◌+◌, ◌-◌, ◌*◌, ◌^◌, ◌<◌, ◌≤◌, ◌++◌, ◌==◌, List, [], ◌∷◌, length, Bool, true, false, cond, not, length-append, refl, ap, ◌∙◌, arith}
use Rattle.std.specs.Prelude.{filter}
use Rattle.std.proofs.lemmas.List.Filters.{length-filter_both}
use Rattle.std.proofs.lemmas.Nat.{mul-le}
use Rattle.res_base.specs.Lists.{Each, Member, Pairwise}
use Rattle.res_base.proofs.ListLemmas.{each_in, each_map}
use Rattle.choice_rank.specs.Choices.{IsNarrow, choices_of, costs_most}
use Rattle.choice_rank.specs.declared.variable.VarShape.{VarShape}
use Rattle.choice_rank.proofs.WidthLemmas.{cost_most_le}
use Rattle.problem.specs.ClockValues.{between, clock_domains, clock_variables, home_first, is_home, numbers_from, values_with}
use Rattle.res_model.specs.Clock.{IsBetween}
use Rattle.res_model.specs.ClockValues.{ahb_dividers, apb_dividers, known_steps, pll_dividers}
use Rattle.res_model.specs.Valid.{AreAmong, AreDomains, IsRange}
use Rattle.res_model.specs.declared.project.Home.{Home}
use Rattle.res_model.specs.declared.table.TableParts.{TableParts}
use Rattle.board_fit.specs.Parts.{alone_variables}
use Rattle.joined_choices.proofs.JoinLemmas.{choices_join}
use Rattle.board_fit.proofs.PartLemmas.{alone_choices}

-- ---- how many values a clock variable has at most

row_long : (count first : ℕ) → length (numbers_from count first) ≡ count
row_long zero first = refl
row_long (suc count) first = ap suc (row_long count (first + 1))

short_row : (low high : ℕ) (range : ℕ × ℕ) → IsRange low high range → length (between range) ≤ high + 1 - low
short_row low high range r = omega (arith, row_long (range.1 + 1 - range.0) range.0, r.least, r.ordered, r.greatest)

-- an ascending list within bounds is no longer than they are wide
short_list : (low high : ℕ) (ns : List ℕ) → Each (IsBetween low high) ns → Pairwise ◌<◌ ns → length ns ≤ high + 1 - low
short_list low high [] h p = omega arith
short_list low high (n ∷ ns) h p = omega (arith, h.0.0, h.0.1, short_list (n + 1) high ns (rest ns h.1 p.0) p.1)
  where
    rest : (xs : List ℕ) → Each (IsBetween low high) xs → Each (λ x. n < x) xs → Each (IsBetween (n + 1) high) xs
    rest [] a b = tt
    rest (x ∷ xs) a b = ((omega (arith, b.0), a.0.1), rest xs a.1 b.1)

short_among : (low high : ℕ) (these ns : List ℕ) → Each (IsBetween low high) these → AreAmong these ns → length ns ≤ high + 1 - low
short_among low high these ns within a =
    short_list low high ns (each_map (λ n. Member n these) (IsBetween low high) ns (λ n m. each_in (IsBetween low high) n these within m) a.known) a.ascending

ahb_within : Each (IsBetween 1 512) ahb_dividers
ahb_within = ((omega arith, omega arith), ((omega arith, omega arith), ((omega arith, omega arith), ((omega arith, omega arith), ((omega arith, omega arith), ((omega arith, omega arith), ((omega arith, omega arith), ((omega arith, omega arith), ((omega arith, omega arith), tt)))))))))

apb_within : Each (IsBetween 1 16) apb_dividers
apb_within = ((omega arith, omega arith), ((omega arith, omega arith), ((omega arith, omega arith), ((omega arith, omega arith), ((omega arith, omega arith), tt)))))

pll_within : Each (IsBetween 2 8) pll_dividers
pll_within = ((omega arith, omega arith), ((omega arith, omega arith), ((omega arith, omega arith), ((omega arith, omega arith), tt))))

-- the power steps of either version
steps_within : (version : ℕ) → Each (IsBetween 1 5) (known_steps version)
steps_within version = of_version (version == 1)
  where
    of_version : (first : Bool) → Each (IsBetween 1 5) (cond first (1 ∷ 2 ∷ []) (1 ∷ 2 ∷ 3 ∷ 4 ∷ 5 ∷ []))
    of_version true = ((omega arith, omega arith), ((omega arith, omega arith), tt))
    of_version false = ((omega arith, omega arith), ((omega arith, omega arith), ((omega arith, omega arith), ((omega arith, omega arith), ((omega arith, omega arith), tt)))))

-- each list is no longer than the number beside it, which is none
AreCapped : List ℕ → List (List ℕ) → Type 0
AreCapped [] [] = Unit {0}
AreCapped [] (d ∷ ds) = ⊥
AreCapped (c ∷ cs) [] = ⊥
AreCapped (c ∷ cs) (d ∷ ds) = ((1 ≤ c) × (length d ≤ c)) × AreCapped cs ds

caps : List ℕ
caps = 3 ∷ 2 ∷ 512 ∷ 7 ∷ 62 ∷ 383 ∷ 14 ∷ 16 ∷ 16 ∷ 5 ∷ []

domains_capped : (t : TableParts) → AreDomains t.version t.clock → AreCapped caps (clock_domains t)
unfolding clock_domains caps AreCapped
domains_capped t c = (
  (omega arith, omega arith),
  (
    (omega arith, omega arith),
    (
      (omega arith, omega (arith, short_among 1 512 ahb_dividers t.clock.hpre ahb_within c.hpre)),
      (
        (omega arith, omega (arith, short_among 2 8 pll_dividers t.clock.p pll_within c.p)),
        (
          (omega arith, omega (arith, short_row 2 63 t.clock.m c.m)),
          (
            (omega arith, omega (arith, short_row 50 432 t.clock.n c.n)),
            (
              (omega arith, omega (arith, short_row 2 15 t.clock.q c.q)),
              (
                (omega arith, omega (arith, short_among 1 16 apb_dividers t.clock.ppre1 apb_within c.ppre1)),
                (
                  (omega arith, omega (arith, short_among 1 16 apb_dividers t.clock.ppre2 apb_within c.ppre2)),
                  ((omega arith, omega (arith, short_among 1 5 (known_steps t.version) t.clock.vos (steps_within t.version) c.vos)), tt),
                ),
              ),
            ),
          ),
        ),
      ),
    ),
  ),
)

both_long : (home : ℕ) (d : List ℕ) → length (home_first home d) ≡ length d
both_long home d = length-append (filter (is_home home) d) (filter (λ v. not (is_home home v)) d) ∙ length-filter_both (is_home home) (λ v. not (is_home home v)) (λ x. refl) d

values_capped : (fixes : Bool) (home cap : ℕ) (d : List ℕ) → 1 ≤ cap → length d ≤ cap → length (values_with fixes home d) ≤ cap
values_capped true home cap d one l = omega (arith, one)
values_capped false home cap d one l = omega (arith, both_long home d, l)

product : List ℕ → ℕ
product [] = 1
product (c ∷ cs) = c * product cs

choices_capped : (fixes : Bool) (cs : List ℕ) (ds : List (List ℕ)) (hs : List Home) → length hs ≡ length ds → AreCapped cs ds → choices_of (clock_variables fixes ds hs) ≤ product cs
unfolding AreCapped product
choices_capped fixes [] [] hs e h = omega arith
choices_capped fixes [] (d ∷ ds) hs e h = absurd h
choices_capped fixes (c ∷ cs) [] hs e h = absurd h
choices_capped fixes (c ∷ cs) (d ∷ ds) [] e h = absurd (omega (arith, e))
choices_capped fixes (c ∷ cs) (d ∷ ds) (home ∷ hs) e h =
    mul-le (length (values_with fixes home.value d)) (choices_of (clock_variables fixes ds hs)) c (product cs) (values_capped fixes home.value c d h.0.0 h.0.1) (choices_capped fixes cs ds hs (omega (arith, e)) h.1)

-- ---- costs

costs_few : (vs : List VarShape) → costs_most vs ≤ length vs
costs_few [] = omega arith
costs_few (v ∷ vs) = omega (arith, cost_most_le v.costs v.size, costs_few vs)

costs_joined : (vs ws : List VarShape) → costs_most (vs ++ ws) ≡ costs_most vs + costs_most ws
costs_joined [] ws = omega arith
costs_joined (v ∷ vs) ws = omega (arith, costs_joined vs ws)

alone_costs : (n : ℕ) → costs_most (alone_variables n) ≡ 0
alone_costs zero = refl
alone_costs (suc n) = omega (arith, alone_costs n)

all_caps : product caps ≡ 9150560993280
unfolding product caps
all_caps = refl

narrow_from : (cost choices most : ℕ) → cost ≤ 10 → choices ≤ most → most ≡ 9150560993280 → (1 + cost) * choices ≤ 2 ^ 63
narrow_from cost choices most l m e =
    let p : (1 + cost) * choices ≤ 11 * 9150560993280 = mul-le (1 + cost) choices 11 9150560993280 (omega (arith, l)) (omega (arith, m, e)) in
    omega (arith, p)

pub clocks_narrow : (fixes : Bool) (t : TableParts) (hs : List Home) (n : ℕ) → AreDomains t.version t.clock → length hs ≡ length (clock_domains t) → length (clock_variables fixes (clock_domains t) hs) ≡ 10 → IsNarrow (clock_variables fixes (clock_domains t) hs ++ alone_variables n)
clocks_narrow fixes t hs n domains e ten =
    let vs : List VarShape = clock_variables fixes (clock_domains t) hs in
    let cost : costs_most (vs ++ alone_variables n) ≤ 10 = omega (arith, costs_joined vs (alone_variables n), alone_costs n, costs_few vs, ten) in
    let choices : choices_of (vs ++ alone_variables n) ≡ choices_of vs * 1 = choices_join vs (alone_variables n) ∙ ap (λ (m : ℕ). choices_of vs * m) (alone_choices n) in
    narrow_from (costs_most (vs ++ alone_variables n)) (choices_of (vs ++ alone_variables n)) (product caps) cost (omega (arith, choices, choices_capped fixes caps (clock_domains t) hs e (domains_capped t domains))) all_caps
