use Rattle.std.proofs.Common.{Some, sym, ap, ◌∙◌, arith}
use Rattle.box_split.proofs.PathLemmas.{path_box}
use Rattle.box_split.proofs.ShortLemmas.{path_below}
use Rattle.search_api.proofs.PlaceLemmas.{lower_is, upper_is}
use Rattle.search_api.proofs.place.Place.halve.Goals as goal

pub overflow_mul-upper : goal.overflow_mul-upper
overflow_mul-upper c = omega (arith, path_below c.args.s.now c.args.self.now.path _ c.vars-vars.ensures.shape c.requires.at)

pub overflow_add-upper : goal.overflow_add-upper
overflow_add-upper c = omega (arith, path_below c.args.s.now c.args.self.now.path _ c.vars-vars.ensures.shape c.requires.at)

pub keep_upper-requires-clause-is_box : goal.keep_upper-requires-clause-is_box
keep_upper-requires-clause-is_box c = path_box c.args.s.now c.args.self.now.path _ c.vars-vars.ensures.shape.positions c.requires.at

pub overflow_mul-self : goal.overflow_mul-self
overflow_mul-self c = omega (arith, path_below c.args.s.now c.args.self.now.path _ c.vars-vars.ensures.shape c.requires.at)

pub keep_lower-requires-clause-is_box : goal.keep_lower-requires-clause-is_box
keep_lower-requires-clause-is_box c = path_box c.args.s.now c.args.self.now.path _ c.vars-vars.ensures.shape.positions c.requires.at

pub returns-clause-lower_at : goal.returns-clause-lower_at
returns-clause-lower_at c =
    lower_is c.args.s.now c.args.self.now c.args.variable c.args.after c.requires.at c.requires.split ∙ ap Some (sym c.keep_lower.ensures.half)

pub returns-clause-upper_at : goal.returns-clause-upper_at
returns-clause-upper_at c =
    upper_is c.args.s.now c.args.self.now c.args.variable c.args.after c.requires.at c.requires.split ∙ ap Some (sym c.keep_upper.ensures.half)
