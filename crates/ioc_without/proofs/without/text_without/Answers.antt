use Rattle.std.proofs.lemmas.Result.{IfOk-weaker}
use Rattle.ioc_without.specs.Starts.{remarked, same}
use Rattle.ioc_without.proofs.without.text_without.Goals as goal

pub returns-in-None : goal.returns-in-None
returns-in-None c = IfOk-weaker c.copied.result _ _ (λ left is. same c.in-None.ensures.nothing is) c.copied.ensures

pub returns-in-Some : goal.returns-in-Some
returns-in-Some c = IfOk-weaker c.remarked.result _ _ (λ left is. remarked c.in-Some.at c.in-Some.ensures.start is) c.remarked.ensures
