use Rattle.std.proofs.Common.{subst, sym, ap, length, ◌∙◌, arith}
use Rattle.dma_rules.specs.Judged.{CanBeJudged, reason_refutes}
use Rattle.dma_rules.proofs.BoxLemmas.{box_read, by_box}
use Rattle.dma_rules.proofs.checker.refutes.Goals as goal

pub reason_refutes-requires-clause-judged : goal.reason_refutes-requires-clause-judged
reason_refutes-requires-clause-judged c = subst CanBeJudged (sym c.requests.ensures) c.requires.judged

pub reason_refutes-requires-clause-low : goal.reason_refutes-requires-clause-low
reason_refutes-requires-clause-low c = omega (arith, c.requires.judged.few, ap length c.requests.ensures)

pub reason_refutes-requires-clause-high : goal.reason_refutes-requires-clause-high
reason_refutes-requires-clause-high c = omega (arith, c.requires.judged.few, ap length c.requests.ensures)

pub reason_refutes-requires-clause-is_box : goal.reason_refutes-requires-clause-is_box
reason_refutes-requires-clause-is_box c = box_read c.args.w.now c.requests.result.now c.args.b.now.lo c.args.b.now.hi c.requests.ensures c.requires.is_box

pub returns : goal.returns
returns c = c.reason_refutes.ensures ∙ by_box c.args.w.now c.requests.result.now c.args.b.now.lo c.args.b.now.hi c.requests.ensures (λ rs box. reason_refutes rs c.args.reason box)
