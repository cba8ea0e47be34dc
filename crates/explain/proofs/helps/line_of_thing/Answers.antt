use Rattle.std.proofs.Common.{◌≡◌, ◌∙◌, ℕ, List, ap, subst}
use Rattle.explain.specs.GiveUp.{line_if}
use Rattle.explain.specs.Left.{ComesTo, lines_left, opts_left}
use Rattle.explain.specs.Things.{words_of}
use Rattle.problem.specs.declared.parts.ProblemParts.{ProblemParts}
use Rattle.res_model.specs.declared.project.Signal.{Signal}
use Rattle.res_model.specs.declared.table.TableParts.{TableParts}
use Rattle.explain.proofs.helps.line_of_thing.Goals as goal

pub returns : goal.returns
returns c =
    let p = c.args.p.now in
    let opts = c.args.opts.now in
    let thing = c.args.thing in
    let words : c.as_str.result.now ≡ words_of p.tables opts p.signals thing =
    c.as_str.ensures.value ∙ c.in_ok-words.ensures
    ∙ ap (λ (t : TableParts). words_of t opts c.as_slice.result.now thing) (c.parts.ensures ∙ ap (λ (q : ProblemParts). q.tables) c.parts-parts.ensures)
    ∙ ap (λ (ss : List Signal). words_of p.tables opts ss thing) (c.as_slice.ensures ∙ ap (λ (q : ProblemParts). q.signals) c.parts-parts.ensures) in
    record {
      cost = c.in_ok-cost.cost;
      comes = subst (λ (q : ProblemParts). ComesTo q.tables (lines_left c.args.ioc.now thing) (opts_left opts thing) c.in_ok-cost.cost) c.parts-parts.ensures c.in_ok-cost.ensures;
      line_is = c.in_ok-line.ensures ∙ ap (λ (w : List ℕ). line_if w c.in_ok-cost.cost) words;
    }
