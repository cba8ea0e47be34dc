use Rattle.std.proofs.Common.{List, [], ◌∷◌, ◌++◌, ap, ◌∙◌}
use Rattle.search_api.specs.declared.place.Place.{Place}
use Rattle.search_api.proofs.place.push_halves.Goals as goal

pub returns : goal.returns
returns c = record {
  upper = c.halve-upper.result;
  lower = c.halve-upper.new.self;
  pushed = c.in_ok-push-2.ensures.items ∙ ap (λ (ps : List Place). ps ++ c.halve-upper.new.self ∷ []) c.in_ok-push.ensures.items;
  upper_path = c.halve-upper.ensures.upper;
  lower_path = c.halve-upper.ensures.lower;
  upper_at = c.halve-upper.ensures.upper_at;
  lower_at = c.halve-upper.ensures.lower_at;
}
