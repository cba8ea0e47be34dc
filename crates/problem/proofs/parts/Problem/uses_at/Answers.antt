use Rattle.std.proofs.Common.{◌≡◌, ◌∙◌, ◌<◌, length, length-set, ap, arith}
use Rattle.problem.specs.declared.parts.ProblemParts.{ProblemParts}
use Rattle.problem.proofs.ChosenLemmas.{uses_more}
use Rattle.problem.proofs.parts.Problem.uses_at.Goals as goal

pub loop-signal-preserved : goal.loop-signal-preserved
loop-signal-preserved c =
    let many : c.len-signal-end.result ≡ length c.args.self.now.signals = c.len-signal-end.ensures ∙ ap (λ (p : ProblemParts). length p.signals) c.parts.ensures in
    let below : c.loop-signal.signal < length c.args.self.now.signals = omega (arith, c.loop-signal-test.true, many) in
    record {
      size = length-set c.loop-signal.uses c.loop-signal.signal c.use_of.result ∙ c.loop-signal.invariant.size;
      prefix = uses_more c.args.self.now c.parts_agree.ensures c.args.at.now c.requires c.loop-signal.uses c.loop-signal.signal c.use_of.result c.loop-signal.invariant.size below c.use_of.ensures c.loop-signal.invariant.prefix;
    }
