use Rattle.std.proofs.lemmas.Result.{IfOk-weaker}
use Rattle.resolver.proofs.StatusLemmas.{of_explain}
use Rattle.resolver.proofs.commands.explained.Goals as goal

pub returns-clause-status : goal.returns-clause-status
returns-clause-status c = IfOk-weaker c.explain.result _ _ (λ a due. of_explain c.args.tables c.args.project c.args.text.now c.args.opts.now a due) c.explain.ensures
