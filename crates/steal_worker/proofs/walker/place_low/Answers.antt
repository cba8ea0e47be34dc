use Rattle.std.proofs.Common.{List, sym, subst}
use Rattle.choice_rank.specs.declared.variable.VarShape.{VarShape}
use Rattle.box_split.specs.Boxes.{IsBox}
use Rattle.box_split.specs.BoxIn.{box_in}
use Rattle.box_split.proofs.PathLemmas.{path_box}
use Rattle.steal_worker.proofs.walker.place_low.Goals as goal

pub low-requires : goal.low-requires
low-requires g c = let m = g.J.Judge.meaning c.args.j.now in let p = c.args.place.now in
    subst (λ (vs : List VarShape). IsBox vs (box_in vs p.b)) (sym c.shape.ensures) (path_box m.shape p.path (box_in m.shape p.b) (g.met.J.Judge.lawful c.args.j.now).is_shape.positions c.requires)
