use Rattle.std.proofs.Common.{subst, sym}
use Rattle.dma_rules.specs.Judged.{HasRows}
use Rattle.dma_rules.proofs.BoxLemmas.{request_has}
use Rattle.dma_rules.proofs.want.variables_of.Goals as goal

pub variable_of-requires : goal.variable_of-requires
variable_of-requires c = subst HasRows (sym c.request-item.is) (request_has c.args.requests.now c.loop-request.request-index c.request-item.result c.loop-request-test.true c.requires)
