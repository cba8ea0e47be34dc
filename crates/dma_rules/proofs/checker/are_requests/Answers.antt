use Rattle.std.proofs.Common.{length, sym, ◌∙◌, arith}
use Rattle.dma_rules.proofs.BoxLemmas.{no_outsider, outsider}
use Rattle.dma_rules.proofs.checker.are_requests.Goals as goal

pub returns-then-not-is_request : goal.returns-then-not-is_request
returns-then-not-is_request c =
    sym (outsider (length c.args.requests.now) c.args.vars.now c.loop-v.v (omega arith) (sym c.has.ensures ∙ c.if-has.true) (sym c.is_request.ensures ∙ c.if-not-is_request.true))

pub returns : goal.returns
returns c = sym (no_outsider (length c.args.requests.now) c.args.vars.now c.loop-v.v (omega arith) c.loop-v.invariant)
