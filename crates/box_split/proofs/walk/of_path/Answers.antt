use Rattle.std.proofs.Common.{rules, ◌≡◌, Some}
use Rattle.box_split.specs.BoxIn.{box_in}
use Rattle.box_split.specs.Paths.{box_of}
use Rattle.box_split.proofs.PathLemmas.{path_box}
use Rattle.box_split.proofs.walk.of_path.Goals as goal

pub returns-clause-is_box : goal.returns-clause-is_box
returns-clause-is_box c =
    let found : box_of c.args.s.now c.args.path ≡ Some (box_in c.args.s.now (record { lo = c.walk.new.lo; hi = c.walk.new.hi })) = search rules in
    path_box c.args.s.now c.args.path _ c.vars.ensures.shape.positions found
