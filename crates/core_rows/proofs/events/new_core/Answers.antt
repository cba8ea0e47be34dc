use Rattle.std.proofs.lemmas.Result.{IfOk-weaker}
use Rattle.core_rows.proofs.events.new_core.Goals as goal

pub returns : goal.returns
returns g c = IfOk-weaker c.new.result _ _ (λ x fits. fits (g.J.Judge.meaning c.args.judge.now)) c.new.ensures.fits
