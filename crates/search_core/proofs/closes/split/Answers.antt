use Rattle.std.proofs.Common.{arith}
use Rattle.std.proofs.lemmas.Option.{slice_get_within}
use Rattle.box_split.proofs.ShortLemmas.{path_below}
use Rattle.search_core.proofs.closes.split.Goals as goal

pub overflow_mul-held : goal.overflow_mul-held
overflow_mul-held g c =
    let m = g.J.Judge.meaning c.args.j.now in
    omega (arith, path_below m.shape c.in-Some.held.path _ (g.met.J.Judge.lawful c.args.j.now).is_shape c.in-Some.ensures.judged.0.holds.has_box)

pub overflow_add-held : goal.overflow_add-held
overflow_add-held g c =
    let m = g.J.Judge.meaning c.args.j.now in
    omega (arith, path_below m.shape c.in-Some.held.path _ (g.met.J.Judge.lawful c.args.j.now).is_shape c.in-Some.ensures.judged.0.holds.has_box)

pub put_last-requires : goal.put_last-requires
put_last-requires g c = omega (arith, c.requires.core.workers, slice_get_within c.args.core.now.hands c.args.w c.in-Some.held.hand c.in-Some.ensures.judged.0.holds.has_hand)

pub overflow_mul-held-in-Open : goal.overflow_mul-held-in-Open
overflow_mul-held-in-Open g c =
    let m = g.J.Judge.meaning c.args.j.now in
    omega (arith, path_below m.shape c.in-Some.held.path _ (g.met.J.Judge.lawful c.args.j.now).is_shape c.in-Some.ensures.judged.0.holds.has_box)

pub put_hand-requires : goal.put_hand-requires
put_hand-requires g c = slice_get_within c.args.core.now.hands c.args.w c.in-Some.held.hand c.in-Some.ensures.judged.0.holds.has_hand
