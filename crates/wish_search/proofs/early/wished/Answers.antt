use Rattle.std.proofs.Common.{◌≡◌, ◌*◌, [], ℕ, List, length, map, true, Some, sym, subst, ◌∙◌}
use Rattle.std.specs.Prelude.{slice_index_or}
use Rattle.problem.specs.ClockValues.{clock_value}
use Rattle.problem.specs.Meets.{meets}
use Rattle.problem.specs.Wishes.{with_hclk}
use Rattle.wish_search.specs.Early.{IsEarly}
use Rattle.wish_search.specs.declared.early.Early.{Early}
use Rattle.wish_search.specs.Lowest.{IsLowestOf}
use Rattle.wish_search.proofs.LowestLemmas.{early_is}
use Rattle.wish_search.proofs.early.wished.Goals as goal

pub returns-clause-early : goal.returns-clause-early
returns-clause-early c =
    let p = c.args.p in
    let wish = c.args.wish in
    let variable = c.args.variable in
    let best = c.in_ok-tried.tried.best in
    let hertz : c.as_slice.result.now ≡ map (λ d. wish * d) (slice_index_or p.clock variable []) = c.as_slice.ensures.value ∙ c.in_ok-hertz.ensures in
    let fixes : (at : List ℕ) → meets p at ≡ true → meets (with_hclk (Some (wish * clock_value p.clock at variable)) p) at ≡ true = λ at m. c.a_bus_wish_fixes_hclk.ensures p wish variable at c.requires.wish m in
    let low = subst (λ (hs : List ℕ). IsLowestOf p (length hs) hs best) hertz c.in_ok-tried.ensures.lowest in
    subst (λ (e : Early). IsEarly p e) (sym c.early_of.ensures) (early_is p c.parts_agree.ensures c.requires.whole wish variable c.requires.wish best fixes low)
