use Rattle.std.proofs.Common.{Some, sym, ap, ◌∙◌, arith}
use Rattle.box_split.proofs.PathLemmas.{path_box}
use Rattle.box_split.proofs.ShortLemmas.{path_below}
use Rattle.search_api.proofs.PlaceLemmas.{upper_is}
use Rattle.steal_worker.proofs.halves.make_upper.Goals as goal

pub overflow_mul-place : goal.overflow_mul-place
overflow_mul-place c = omega (arith, path_below c.args.s.now c.args.place.now.path _ c.vars-vars.ensures.shape c.requires.at)

pub overflow_add-place : goal.overflow_add-place
overflow_add-place c = omega (arith, path_below c.args.s.now c.args.place.now.path _ c.vars-vars.ensures.shape c.requires.at)

pub keep_upper-requires-clause-is_box : goal.keep_upper-requires-clause-is_box
keep_upper-requires-clause-is_box c = path_box c.args.s.now c.args.place.now.path _ c.vars-vars.ensures.shape.positions c.requires.at

pub returns-clause-at : goal.returns-clause-at
returns-clause-at c =
    upper_is c.args.s.now c.args.place.now c.args.variable c.args.after c.requires.at c.requires.split ∙ ap Some (sym c.keep_upper.ensures.half)
