use Rattle.std.proofs.Common.{◌≢◌, ◌<◌, length, ap, ◌∙◌, below_more, arith}
use Rattle.std.proofs.lemmas.List.{get_or-set_same, get_or-set_other}
use Rattle.res_base.specs.VarSet.{in_set}
use Rattle.box_split.specs.BoxIn.{runs_in}
use Rattle.pin_match.proofs.SetLemmas.{nothing}
use Rattle.dma_rules.proofs.BoxLemmas.{filled}
use Rattle.dma_rules.proofs.judge.fill.Goals as goal

pub loop-place-preserved : goal.loop-place-preserved
loop-place-preserved c =
    below_more _ _
    (λ k h s. let ne : k ≢ c.loop-place.place = omega arith in ap (λ x. in_set x s) (get_or-set_other c.loop-place.sets c.loop-place.place k c.can_have.result nothing ne) ∙ c.loop-place.invariant k h s)
    (λ s. let lt : c.loop-place.place < length c.loop-place.sets = omega arith in ap (λ x. in_set x s) (get_or-set_same c.loop-place.sets c.loop-place.place c.can_have.result nothing lt) ∙ c.can_have.ensures s)

pub returns : goal.returns
returns c =
    filled c.loop-place.sets c.args.requests.now (runs_in (length c.args.requests.now) c.args.lo.now c.args.hi.now) (omega arith) (λ k h. c.loop-place.invariant k (omega arith))
