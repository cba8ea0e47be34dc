use Rattle.std.proofs.lemmas.Option.{slice_get_within}
use Rattle.search_core.proofs.closes.keep.Goals as goal

pub close_leaf-requires : goal.close_leaf-requires
close_leaf-requires g c = slice_get_within c.args.core.now.hands c.args.w c.in-Some.held.hand c.in-Some.ensures.judged.0.holds.has_hand
