use Rattle.std.proofs.Common.{length, sym, subst, arith}
use Rattle.choice_rank.proofs.WidthLemmas.{size_at}
use Rattle.box_split.specs.Boxes.{IsBox}
use Rattle.box_split.proofs.WalkLemmas.{found_first, box_high}
use Rattle.box_split.proofs.PathLemmas.{upper_box}
use Rattle.box_split.proofs.halves.keep_upper.Goals as goal

pub bounds-b-variable : goal.bounds-b-variable
bounds-b-variable c =
    let f = found_first (length c.args.s.now) c.args.b.now.lo c.args.b.now.hi c.args.variable c.args.after (omega arith) (omega arith) (sym c.requires.split) in
    omega (arith, f.within)

pub overflow_add-b : goal.overflow_add-b
overflow_add-b c =
    let f = found_first (length c.args.s.now) c.args.b.now.lo c.args.b.now.hi c.args.variable c.args.after (omega arith) (omega arith) (sym c.requires.split) in
    let high = box_high c.args.s.now c.args.b.now.lo c.args.b.now.hi c.args.variable c.requires.is_box f.within in
    let size = size_at c.args.s.now c.args.variable c.vars-vars.ensures.shape.small f.within in
    record { fits = omega (arith, f.below, high, size) }

pub returns-clause-half : goal.returns-clause-half
returns-clause-half c =
    let f = found_first (length c.args.s.now) c.args.b.now.lo c.args.b.now.hi c.args.variable c.args.after (omega arith) (omega arith) (sym c.requires.split) in
    sym f.high_half

pub returns-clause-is_box : goal.returns-clause-is_box
returns-clause-is_box c =
    let f = found_first (length c.args.s.now) c.args.b.now.lo c.args.b.now.hi c.args.variable c.args.after (omega arith) (omega arith) (sym c.requires.split) in
    subst (IsBox c.args.s.now) f.high_half (upper_box c.args.s.now _ c.requires.is_box)
