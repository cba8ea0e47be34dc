use Rattle.std.proofs.Common.{length, sym, subst, arith}
use Rattle.box_split.specs.Boxes.{IsBox}
use Rattle.box_split.proofs.WalkLemmas.{found_first}
use Rattle.box_split.proofs.PathLemmas.{lower_box}
use Rattle.box_split.proofs.halves.keep_lower.Goals as goal

pub bounds-b-variable : goal.bounds-b-variable
bounds-b-variable c =
    let f = found_first (length c.args.s.now) c.args.b.now.lo c.args.b.now.hi c.args.variable c.args.after (omega arith) (omega arith) (sym c.requires.split) in
    omega (arith, f.within)

pub returns-clause-half : goal.returns-clause-half
returns-clause-half c =
    let f = found_first (length c.args.s.now) c.args.b.now.lo c.args.b.now.hi c.args.variable c.args.after (omega arith) (omega arith) (sym c.requires.split) in
    sym f.low_half

pub returns-clause-is_box : goal.returns-clause-is_box
returns-clause-is_box c =
    let f = found_first (length c.args.s.now) c.args.b.now.lo c.args.b.now.hi c.args.variable c.args.after (omega arith) (omega arith) (sym c.requires.split) in
    subst (IsBox c.args.s.now) f.low_half (lower_box c.args.s.now _ c.requires.is_box)
