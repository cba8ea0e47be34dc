use Rattle.std.proofs.Common.{sym, subst, ◌<◌, ◌≤◌, arith}
use Rattle.res_base.proofs.ListLemmas.{each_push}
use Rattle.choice_rank.specs.declared.variable.VarShape.{VarShape}
use Rattle.choice_rank.specs.Choices.{HasPositions, HasSmallSizes}
use Rattle.base_rows.proofs.shapes.append.Goals as goal

pub loop-preserved : goal.loop-preserved
loop-preserved c = record {
  positions = subst HasPositions (sym c.in_ok-push.ensures.items) (each_push (λ (v : VarShape). 0 < v.size) _ _ c.loop.invariant.positions c.requires.positive);
  sizes = subst HasSmallSizes (sym c.in_ok-push.ensures.items) (each_push (λ (v : VarShape). v.size ≤ 512) _ _ c.loop.invariant.sizes c.requires.small);
  count = omega (arith, c.in_ok-push.ensures.len);
}
