use Rattle.std.proofs.Common.{subst, sym}
use Rattle.res_base.specs.Lists.{Each}
use Rattle.dma_rules.specs.Judged.{HasRows}
use Rattle.dma_rules.proofs.WantLemmas.{vars_shape, want_is_judged}
use Rattle.dma_rules.proofs.want.shape_of.Goals as goal

pub variables_of-requires : goal.variables_of-requires
variables_of-requires c = subst (Each HasRows) (sym c.as_slice.ensures) (want_is_judged c.args.requests.now c.requires).rows

pub new-requires-clause-few : goal.new-requires-clause-few
new-requires-clause-few c = (vars_shape c.in_ok-vars.vars.items c.as_slice.result.now c.args.requests.now c.in_ok-vars.ensures c.as_slice.ensures c.requires).few

pub new-requires-clause-positions : goal.new-requires-clause-positions
new-requires-clause-positions c = (vars_shape c.in_ok-vars.vars.items c.as_slice.result.now c.args.requests.now c.in_ok-vars.ensures c.as_slice.ensures c.requires).positions

pub new-requires-clause-sizes : goal.new-requires-clause-sizes
new-requires-clause-sizes c = (vars_shape c.in_ok-vars.vars.items c.as_slice.result.now c.args.requests.now c.in_ok-vars.ensures c.as_slice.ensures c.requires).small
