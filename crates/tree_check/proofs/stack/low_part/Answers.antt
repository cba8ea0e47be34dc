use Rattle.std.proofs.Common.{length, arith}
use Rattle.tree_check.proofs.StackLemmas.{low_part_at, split_within}
use Rattle.tree_check.proofs.stack.low_part.Goals as goal

pub bounds-part-variable : goal.bounds-part-variable
bounds-part-variable c =
    let s = split_within (length c.args.s.now) c.args.b.now.lo c.args.b.now.hi c.args.variable c.args.after c.requires in
    omega (arith, s.within)

pub returns : goal.returns
returns c = low_part_at (length c.args.s.now) c.args.b.now.lo c.args.b.now.hi c.args.variable c.args.after c.requires
