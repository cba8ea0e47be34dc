use Rattle.std.proofs.lemmas.Result.{IfOk-weaker}
use Rattle.board_fit.specs.Parts.{pins_of, whole_of}
use Rattle.resolver.proofs.StatusLemmas.{of_board}
use Rattle.resolver.proofs.commands.boarded.Goals as goal

pub returns-clause-status : goal.returns-clause-status
returns-clause-status c =
    let t = c.args.tables in
    let p = c.args.project in
    IfOk-weaker c.board.result _ _ (λ a due. of_board (pins_of t p c.args.opts.now) (whole_of t p c.args.opts.now) a due) c.board.ensures
