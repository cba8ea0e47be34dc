use Rattle.std.proofs.lemmas.Result.{IfOk-weaker}
use Rattle.refusal.proofs.RefusalLemmas.{fault_is}
use Rattle.problem.specs.Problem.{IsRefused}
use Rattle.board_fit.specs.Board.{narrow, wide}
use Rattle.board_fit.specs.Parts.{pins_of}
use Rattle.board_fit.proofs.DueLemmas.{of_parts}
use Rattle.board_fit.proofs.boards.board.Goals as goal

pub returns-in-Ok : goal.returns-in-Ok
returns-in-Ok c =
    let is_narrow = c.in-Ok.ensures.narrow in
    IfOk-weaker c.searched.result _ _ (λ a due. narrow is_narrow (of_parts c.args.t c.args.p c.args.opts.now c.is_board.ensures a due)) c.searched.ensures

pub returns-in-Err-Fault : goal.returns-in-Err-Fault
returns-in-Err-Fault c =
    let q = pins_of c.args.t c.args.p c.args.opts.now in
    let refused = fault_is (IsRefused q.shape) c.in-Err-Fault.field-0 c.in-Err-Fault.fault _ c.in-Err-Fault.field-0-is c.wide_variable.ensures c.in-Err-Fault.ensures.refused in
    IfOk-weaker c.too_wide.result _ _ (λ a says. wide c.wide_variable.result refused.0 refused.1 says) c.too_wide.ensures
