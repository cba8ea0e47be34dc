use Rattle.std.proofs.Common.{◌<◌, [], length, ◌∙◌, arith}
use Rattle.clock_limits.proofs.SpreadLemmas.{same_at}
use Rattle.box_spans.proofs.runs.run.Goals as goal

pub returns : goal.returns
returns c =
    let inside : c.args.k < length c.args.values.now = omega (arith, c.requires.ten, c.requires.place) in
    c.as_slice.ensures ∙ c.index-values-k.is ∙ same_at c.args.values.now c.args.k c.index-values-k.result [] inside
