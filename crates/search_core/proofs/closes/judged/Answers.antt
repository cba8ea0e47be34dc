use Rattle.box_split.proofs.PathLemmas.{path_box}
use Rattle.search_core.proofs.closes.judged.Goals as goal

pub judge-verdict-requires-clause-is_box : goal.judge-verdict-requires-clause-is_box
judge-verdict-requires-clause-is_box g c =
    let m = g.J.Judge.meaning c.args.j.now in
    path_box m.shape c.in_ok-held.held.path _ (g.met.J.Judge.lawful c.args.j.now).is_shape.positions c.in_ok-held.ensures.holds.has_box
