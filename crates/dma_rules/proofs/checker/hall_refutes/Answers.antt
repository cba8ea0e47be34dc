use Rattle.std.proofs.Common.{◌≡◌, length, true, sym, ap, ◌∙◌}
use Rattle.std.specs.Prelude.{nat_lt}
use Rattle.res_base.specs.VarSet.{set_size}
use Rattle.box_split.specs.BoxIn.{runs_in}
use Rattle.dma_rules.specs.Judged.{are_requests}
use Rattle.dma_rules.proofs.BoxLemmas.{hall_is, hall_not}
use Rattle.dma_rules.proofs.checker.hall_refutes.Goals as goal

pub returns-then-not-are_requests : goal.returns-then-not-are_requests
returns-then-not-are_requests c =
    hall_not c.args.requests.now (runs_in (length c.args.requests.now) c.args.lo.now c.args.hi.now) c.args.vars.now (sym c.are_requests.ensures ∙ c.if-not-are_requests.true)

pub returns : goal.returns
returns c =
    let all : are_requests (length c.args.requests.now) c.args.vars.now ≡ true = sym c.are_requests.ensures ∙ c.if-not-are_requests.false in
    ap (λ k. nat_lt k c.len-2.result) c.len.ensures ∙ ap (λ k. nat_lt (set_size c.streams_of-streams.result) k) c.len-2.ensures
    ∙ hall_is c.args.requests.now (runs_in (length c.args.requests.now) c.args.lo.now c.args.hi.now) c.args.vars.now c.streams_of-streams.result all c.streams_of-streams.ensures
