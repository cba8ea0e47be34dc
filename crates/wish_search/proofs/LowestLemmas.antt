-- The least rank at some values of HCLK, and that of all choices where the clock of a bus is wished.
use Rattle.std.proofs.Common.{◌≡◌, ◌⊎◌, inl, inr, ℕ, ◌+◌, ◌*◌, ◌<◌, ◌≤◌, min, List, length, map, true, Option, Some, None, IfSome, refl, sym, ap, subst, arith}
use Rattle.std.proofs.lemmas.Bool.Decides.{nat_tests}
use Rattle.std.proofs.lemmas.List.{length-map}
use Rattle.std.specs.Prelude.{slice_index, slice_index_or, ◌≢◌, [], ◌∷◌, zero, suc}
use Rattle.box_rules.specs.Judged.{whole_meaning}
use Rattle.choice_rank.specs.Choices.{IsChoice, rank_of}
use Rattle.choice_rank.specs.Least.{IsAnswer, IsLeast}
use Rattle.problem.specs.ClockValues.{clock_value}
use Rattle.problem.specs.Meets.{meets}
use Rattle.problem.specs.Problem.{IsProblem}
use Rattle.problem.specs.Wishes.{bus_wish, with_hclk}
use Rattle.problem.specs.declared.parts.ProblemParts.{ProblemParts}
use Rattle.problem.proofs.ChosenLemmas.{clock_inside}
use Rattle.wish_search.proofs.BusLemmas.{bus_wish_is_low}
use Rattle.search_api.specs.Accounts.{IsLegalRank}
use Rattle.wish_search.specs.Early.{IsEarly, early_of}
use Rattle.wish_search.specs.Lowest.{IsBelow, IsLowestOf, IsReached, lower}

-- what is wished and taken back leaves the problem as it was
pub taken_back : (p : ProblemParts) (hclk : Option ℕ) → p.facts.hclk ≡ None → with_hclk None (with_hclk hclk p) ≡ p
taken_back p hclk none = ap (λ wish. with_hclk wish p) (sym none)

-- ---- the lower of two ranks
min_is : (a b : ℕ) → (min a b ≡ a) ⊎ (min a b ≡ b)
min_is a b = grind (arith, nat_tests)

lower_keeps : (P : ℕ → Type 0) (one other : Option ℕ) → IfSome one P → IfSome other P → IfSome (lower one other) P
lower_keeps P None other f g = g
lower_keeps P (Some a) None f g = f
lower_keeps P (Some a) (Some b) f g = elim (min_is a b) [
  | inl e ↦ subst P (sym e) f
  | inr e ↦ subst P (sym e) g
]

reached_left : (one other : Option ℕ) (rank : ℕ) → IsReached one rank → IsReached (lower one other) rank
reached_left None other rank r = absurd r
reached_left (Some a) None rank r = r
reached_left (Some a) (Some b) rank r = omega (arith, r)

reached_right : (one other : Option ℕ) (rank : ℕ) → IsReached other rank → IsReached (lower one other) rank
reached_right None other rank r = r
reached_right (Some a) None rank r = absurd r
reached_right (Some a) (Some b) rank r = omega (arith, r)

module _ (p : ProblemParts) where
  -- an answer at one value of HCLK
  legal_rank : (hclk best : Option ℕ) → ((at : List ℕ) → meets (with_hclk hclk p) at ≡ true → meets p at ≡ true) → IsAnswer p.shape (meets (with_hclk hclk p)) best → IfSome best (IsLegalRank (whole_meaning p))
  legal_rank hclk None allows a = tt
  legal_rank hclk (Some rank) allows a = record {
    choice = a.0;
    is_choice = a.1.is_choice;
    is_legal = allows a.0 a.1.is_legal;
    rank_is = a.2;
  }

  found_below : (hclk : ℕ) (found : Option ℕ) → IsAnswer p.shape (meets (with_hclk (Some hclk) p)) found → IsBelow p hclk found
  found_below hclk None a at choice legal = absurd (a at choice legal)
  found_below hclk (Some rank) a at choice legal = subst (λ r. r ≤ rank_of p.shape at) a.2 (a.1.is_lowest at choice legal)

  pub none_tried : (hertz : List ℕ) → IsLowestOf p 0 hertz None
  none_tried hertz = record { legal = tt; below = λ k l. absurd (omega (arith, l)) }

  pub one_more : (k : ℕ) (hertz : List ℕ) (best found : Option ℕ) → ((hclk : Option ℕ) (at : List ℕ) → meets (with_hclk hclk p) at ≡ true → meets p at ≡ true) → IsLowestOf p k hertz best → IsAnswer p.shape (meets (with_hclk (Some (slice_index hertz k)) p)) found → IsLowestOf p (k + 1) hertz (lower best found)
  one_more k hertz best found allows low a = record {
    legal = lower_keeps (IsLegalRank (whole_meaning p)) best found low.legal (legal_rank (Some (slice_index hertz k)) found (allows (Some (slice_index hertz k))) a);
    below = λ j l. elim (last_or j l) [
      | inl before ↦ (λ at choice legal. reached_left best found (rank_of p.shape at) (low.below j before at choice legal))
      | inr e ↦ (λ at choice legal. reached_right best found (rank_of p.shape at) (found_below (slice_index hertz k) found a at choice (subst (λ n. meets (with_hclk (Some (slice_index hertz n)) p) at ≡ true) e legal)))
    ];
  }
    where
      last_or : (j : ℕ) → j < k + 1 → (j < k) ⊎ (j ≡ k)
      last_or j l = grind (arith, nat_tests, l)

  -- ---- all choices
  module _ (agree : IsProblem p) (whole : p.first ≢ 0) (wish variable : ℕ) (bus : bus_wish p.facts ≡ Some (wish, variable)) (best : Option ℕ) where
    abbrev hertz : List ℕ
    hertz = map (λ d. wish * d) (slice_index_or p.clock variable [])

    reached : ((at : List ℕ) → meets p at ≡ true → meets (with_hclk (Some (wish * clock_value p.clock at variable)) p) at ≡ true) → IsLowestOf p (length hertz) hertz best → (at : List ℕ) → IsChoice p.shape at → meets p at ≡ true → IsReached best (rank_of p.shape at)
    reached fixes low at choice legal =
        let values = slice_index_or p.clock variable [] in
        let k = slice_index at variable in
        let inside : k < length values = clock_inside p agree whole at choice variable (bus_wish_is_low p.facts wish variable bus).clock in
        let many : length hertz ≡ length values = length-map values (λ d. wish * d) in
        let there : slice_index hertz k ≡ wish * clock_value p.clock at variable = mapped values k inside in
        low.below k (omega (arith, inside, many)) at choice (subst (λ h. meets (with_hclk (Some h) p) at ≡ true) (sym there) (fixes at legal))
      where
        mapped : (xs : List ℕ) (k : ℕ) → k < length xs → slice_index (map (λ d. wish * d) xs) k ≡ wish * slice_index xs k
        mapped [] k l = absurd (omega (arith, l))
        mapped (x ∷ xs) zero l = refl
        mapped (x ∷ xs) (suc k) l = mapped xs k (omega (arith, l))

  answer_of : (best : Option ℕ) → IfSome best (IsLegalRank (whole_meaning p)) → ((at : List ℕ) → IsChoice p.shape at → meets p at ≡ true → IsReached best (rank_of p.shape at)) → IsEarly p (early_of best)
  answer_of None legal all = λ at choice m. all at choice m
  answer_of (Some rank) legal all =
      let least : IsLeast p.shape (meets p) legal.choice = record {
        is_choice = legal.is_choice;
        is_legal = legal.is_legal;
        is_lowest = λ at choice m. subst (λ r. r ≤ rank_of p.shape at) (sym legal.rank_is) (all at choice m);
      } in
      (legal.choice, least, legal.rank_is)

  pub early_is : (agree : IsProblem p) (whole : p.first ≢ 0) (wish variable : ℕ) (bus : bus_wish p.facts ≡ Some (wish, variable)) (best : Option ℕ)
      → ((at : List ℕ) → meets p at ≡ true → meets (with_hclk (Some (wish * clock_value p.clock at variable)) p) at ≡ true)
      → IsLowestOf p (length (map (λ d. wish * d) (slice_index_or p.clock variable []))) (map (λ d. wish * d) (slice_index_or p.clock variable [])) best → IsEarly p (early_of best)
  early_is agree whole wish variable bus best fixes low = answer_of best low.legal (reached agree whole wish variable bus best fixes low)
