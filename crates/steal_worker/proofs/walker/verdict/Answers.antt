use Rattle.box_split.specs.BoxIn.{box_in}
use Rattle.box_split.proofs.PathLemmas.{path_box}
use Rattle.steal_worker.proofs.walker.verdict.Goals as goal

pub judge-requires-clause-is_box : goal.judge-requires-clause-is_box
judge-requires-clause-is_box g c = let m = g.J.Judge.meaning c.args.j.now in let p = c.args.place.now in
    path_box m.shape p.path (box_in m.shape p.b) (g.met.J.Judge.lawful c.args.j.now).is_shape.positions c.requires.at
