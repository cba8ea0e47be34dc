use Rattle.std.proofs.Common.{◌≡◌, ℕ, List, length, Option, Some, true, sym, subst, ◌∙◌, arith}
use Rattle.std.specs.Prelude.{◌+◌, slice_index}
use Rattle.choice_rank.specs.Least.{IsAnswer}
use Rattle.problem.specs.Meets.{meets}
use Rattle.problem.specs.Wishes.{with_hclk}
use Rattle.problem.specs.declared.parts.ProblemParts.{ProblemParts}
use Rattle.wish_search.specs.Lowest.{IsLowestOf}
use Rattle.wish_search.proofs.LowestLemmas.{one_more}
use Rattle.wish_search.proofs.hertz.lowest.Goals as goal

pub loop-k-preserved : goal.loop-k-preserved
loop-k-preserved c =
    let p = c.args.p in
    let k = c.loop-k.k in
    let hertz = c.args.hertz.now in
    let tried = c.in_ok-tried.ensures in
    let before = c.loop-k.invariant in
    let allows : (hclk : Option ℕ) (at : List ℕ) → meets (with_hclk hclk p) at ≡ true → meets p at ≡ true = λ hclk at m. c.a_wish_allows_nothing.ensures p hclk at c.requires.free m in
    let answer = subst (λ (q : ProblemParts). IsAnswer q.shape (meets (with_hclk (Some (slice_index hertz k)) q)) tried.found) before.0 tried.answer in (
      tried.same ∙ before.0,
      subst (λ (best : Option ℕ). IsLowestOf p (k + 1) hertz best) (sym tried.best) (one_more p k hertz c.loop-k.tried.best tried.found allows before.1 answer),
    )

pub returns-clause-lowest : goal.returns-clause-lowest
returns-clause-lowest c =
    let all : c.loop-k.k ≡ length c.args.hertz.now = omega (arith, c.loop-k-test.false, c.loop-k.auto.k-end) in
    subst (λ (n : ℕ). IsLowestOf c.args.p n c.args.hertz.now c.loop-k.tried.best) all c.loop-k.invariant.1
