use Rattle.std.proofs.lemmas.Option.{slice_get_within}
use Rattle.search_core.proofs.closes.close_bad.Goals as goal

pub close-requires : goal.close-requires
close-requires g c = slice_get_within c.args.core.now.hands c.args.w c.in-Some.held.hand c.in-Some.ensures.judged.0.holds.has_hand
