use Rattle.std.proofs.Common.{subst, sym}
use Rattle.std.proofs.lemmas.Result.{IfOk-weaker}
use Rattle.choice_rank.specs.Least.{IsLeast, NoneLegal}
use Rattle.box_rules.specs.Judged.{pin_meaning}
use Rattle.problem.specs.Meets.{meets}
use Rattle.problem.specs.declared.parts.ProblemParts.{ProblemParts}
use Rattle.board_fit.specs.ByParts.{unplaced}
use Rattle.least_search.specs.Found.{IsFound, IsProof}
use Rattle.board_fit.specs.Parts.{pins_of}
use Rattle.board_fit.proofs.UnplacedLemmas as leaf
use Rattle.board_fit.proofs.boards.pins_told.Goals as goal

pub placed-requires-clause-least : goal.placed-requires-clause-least
placed-requires-clause-least c = subst (IsLeast c.args.q.now.shape (meets c.args.q.now)) (sym c.as_slice.ensures.value) (subst (IsFound (pin_meaning c.args.q.now)) c.in-Choice.is c.requires.found)

pub unplaced-requires : goal.unplaced-requires
unplaced-requires c =
    let q = pins_of c.args.t c.args.p c.args.opts.now in
    let none : NoneLegal q.shape (meets q) = subst (λ (x : ProblemParts). NoneLegal x.shape (meets x)) c.requires.pins (subst (IsFound (pin_meaning c.args.q.now)) c.in-Nothing.is c.requires.found).0 in
    let proof : IsProof (pin_meaning q) c.in-Nothing.proof = subst (λ (x : ProblemParts). IsProof (pin_meaning x) c.in-Nothing.proof) c.requires.pins (subst (IsFound (pin_meaning c.args.q.now)) c.in-Nothing.is c.requires.found).1 in
    (leaf.unplaced_leaf c.args.t c.args.p c.args.opts.now c.requires.board none c.in-Nothing.proof.nodes proof.canonical).low

pub returns-in-Nothing : goal.returns-in-Nothing
returns-in-Nothing c =
    let q = pins_of c.args.t c.args.p c.args.opts.now in
    let none : NoneLegal q.shape (meets q) = subst (λ (x : ProblemParts). NoneLegal x.shape (meets x)) c.requires.pins (subst (IsFound (pin_meaning c.args.q.now)) c.in-Nothing.is c.requires.found).0 in
    let proof : IsProof (pin_meaning q) c.in-Nothing.proof = subst (λ (x : ProblemParts). IsProof (pin_meaning x) c.in-Nothing.proof) c.requires.pins (subst (IsFound (pin_meaning c.args.q.now)) c.in-Nothing.is c.requires.found).1 in
    IfOk-weaker c.unplaced.result _ _ (λ f e. unplaced c.in-Nothing.proof none proof e) c.unplaced.ensures
