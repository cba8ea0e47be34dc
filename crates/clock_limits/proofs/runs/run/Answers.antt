use Rattle.std.proofs.Common.{◌≡◌, ◌<◌, [], length, get_or, refl, ◌∙◌, arith}
use Rattle.clock_limits.specs.Ranges.{run_of}
use Rattle.clock_limits.proofs.SpreadLemmas.{same_at}
use Rattle.clock_limits.proofs.runs.run.Goals as goal

pub returns : goal.returns
unfolding run_of
returns c =
    let inside : c.args.k < length c.args.values.now = omega (arith, c.requires.ten, c.requires.place) in
    let value : c.as_slice.result.now ≡ get_or c.args.values.now c.args.k [] =
    c.as_slice.ensures ∙ c.index-values-k.is ∙ same_at c.args.values.now c.args.k c.index-values-k.result [] inside in
    rw value refl
