use Rattle.std.proofs.Common.{◌∙◌}
use Rattle.box_judge.proofs.LimitLemmas.{clocks_read, limit_read}
use Rattle.box_judge.proofs.clocks.refuting_limit.Goals as goal

pub range_broken-requires-clause-is_box : goal.range_broken-requires-clause-is_box
range_broken-requires-clause-is_box c =
    clocks_read c.args.p.now c.requires.whole c.args.b.now c.requires.is_box c.parts-parts.result.now c.as_slice.result.now c.first_ten.result c.first_ten-2.result
    c.parts-parts.ensures c.as_slice.ensures c.first_ten.ensures c.first_ten-2.ensures

pub returns : goal.returns
returns c =
    c.range_broken.ensures
    ∙ limit_read c.args.p.now c.requires.whole c.args.b.now c.requires.is_box c.parts-parts.result.now c.as_slice.result.now c.first_ten.result c.first_ten-2.result
    c.parts-parts.ensures c.as_slice.ensures c.first_ten.ensures c.first_ten-2.ensures
