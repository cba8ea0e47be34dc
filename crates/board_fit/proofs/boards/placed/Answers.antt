use Rattle.std.proofs.Common.{◌≢◌, subst, sym, arith}
use Rattle.std.proofs.lemmas.Result.{IfOk-weaker}
use Rattle.choice_rank.specs.Least.{IsLeast}
use Rattle.problem.specs.Meets.{meets}
use Rattle.problem.specs.Problem.{problem_of}
use Rattle.problem.specs.declared.parts.ProblemParts.{ProblemParts}
use Rattle.board_fit.specs.ByParts.{OfClocks, placed}
use Rattle.board_fit.specs.Parts.{clocks_of, pins_of}
use Rattle.board_fit.proofs.boards.placed.Goals as goal

pub clocked-requires-clause-whole : goal.clocked-requires-clause-whole
unfolding problem_of
clocked-requires-clause-whole c = subst (λ (x : ProblemParts). x.first ≢ 0) (sym c.in_ok-one.ensures) (λ e. omega (arith, e))

pub returns : goal.returns
returns c =
    let pins = c.requires.pins in
    let q = pins_of c.args.t c.args.p c.args.opts.now in
    let least : IsLeast q.shape (meets q) c.args.at.now = subst (λ (x : ProblemParts). IsLeast x.shape (meets x) c.args.at.now) pins c.requires.least in
    IfOk-weaker c.clocked.result _ _
    (λ f due. placed c.args.at.now least
    (subst (λ (x : ProblemParts). OfClocks x c.args.at.now (clocks_of c.args.t c.args.p c.args.opts.now c.args.at.now) f) pins
    (subst (λ (x : ProblemParts). OfClocks c.args.q.now c.args.at.now x f) c.in_ok-one.ensures due)))
    c.clocked.ensures
