use Rattle.std.proofs.Common.{subst, sym, ap, length, ◌∙◌, arith}
use Rattle.dma_rules.specs.Judged.{CanBeJudged, hall_in}
use Rattle.dma_rules.proofs.BoxLemmas.{box_read, by_box}
use Rattle.dma_rules.proofs.judge.hall_of.Goals as goal

pub hall-requires-clause-judged : goal.hall-requires-clause-judged
hall-requires-clause-judged c = subst CanBeJudged (sym c.requests.ensures) c.can_be_judged.ensures

pub hall-requires-clause-low : goal.hall-requires-clause-low
hall-requires-clause-low c = omega (arith, c.can_be_judged.ensures.few, ap length c.requests.ensures)

pub hall-requires-clause-high : goal.hall-requires-clause-high
hall-requires-clause-high c = omega (arith, c.can_be_judged.ensures.few, ap length c.requests.ensures)

pub hall-requires-clause-is_box : goal.hall-requires-clause-is_box
hall-requires-clause-is_box c = box_read c.args.w.now c.requests.result.now c.args.b.now.lo c.args.b.now.hi c.requests.ensures c.requires.is_box

pub returns-clause-hall : goal.returns-clause-hall
returns-clause-hall c = c.hall.ensures.hall ∙ by_box c.args.w.now c.requests.result.now c.args.b.now.lo c.args.b.now.hi c.requests.ensures hall_in
