use Rattle.std.proofs.Common.{None, map, ap, subst}
use Rattle.std.proofs.lemmas.Result.{IfOk-weaker}
use Rattle.box_rules.specs.Judged.{whole_meaning}
use Rattle.least_search.specs.Found.{IsFound}
use Rattle.refutation.specs.Forms.{form_of}
use Rattle.refutation.specs.Spelling.{spelling}
use Rattle.solver.proofs.ReadLemmas.{alone}
use Rattle.board_fit.specs.ByParts.{proof_text, unclocked}
use Rattle.board_fit.proofs.boards.clocks_told.Goals as goal

pub returns-in-Nothing : goal.returns-in-Nothing
returns-in-Nothing c =
    let proof = c.in-Nothing.proof in
    let found = subst (IsFound (whole_meaning c.args.judge.now.problem)) c.in-Nothing.is c.requires.found in
    let one = c.args.judge.now.problem in
    let text = ap (λ b. spelling b (map form_of proof.nodes)) found.1.bound in
    let refuted = alone one None (proof_text proof) c.args.judge.now.whole tt record { nodes = proof.nodes; canonical = found.1.canonical; accepted = found.1.accepted; text_is = text } in
    IfOk-weaker c.refuted.result _ _ (λ a e. unclocked (proof_text proof) found.0 refuted e) c.refuted.ensures
