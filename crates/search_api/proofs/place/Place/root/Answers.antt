use Rattle.std.proofs.Common.{refl}
use Rattle.box_split.proofs.RunLemmas.{box_root}
use Rattle.search_api.proofs.place.Place.root.Goals as goal

pub of_path-requires : goal.of_path-requires
of_path-requires c = rw (box_root c.args.s.now) refl
