use Rattle.std.proofs.Common.{◌≡◌, ◌+◌, ◌*◌, ◌∙◌, [], ◌∷◌, ◌++◌, List, length, ap, slice_set, slice_index_or, rules}
use Rattle.std.proofs.Math.Seq.{set-append_seam, get_or-append_seam}
use Rattle.search_api.specs.declared.place.Place.{Place}
use Rattle.steal_worker.specs.Walks.{held_places}
use Rattle.steal_worker.proofs.held.Held.push_upper.Goals as goal

pub returns : goal.returns
returns c =
    let old = held_places c.args.self.now in
    let p = c.args.place.now in
    let n = c.len-n.result in
    let q = c.make_upper.new.place in
    let r = c.index_mut.result.now in
    let at : n ≡ length old = search rules in
    let same : r ≡ p = c.index_mut.ensures.value ∙ (ap (λ (xs : List Place). slice_index_or xs n r) c.push_reserved.ensures.items ∙ (ap (λ k. slice_index_or (old ++ p ∷ []) k r) at ∙ get_or-append_seam old p [] r)) in
    record {
      upper = q;
      pushed = ap (λ (xs : List Place). slice_set xs n q) c.push_reserved.ensures.items ∙ (ap (λ k. slice_set (old ++ p ∷ []) k q) at ∙ set-append_seam old p [] q);
      upper_path = c.make_upper.ensures.path ∙ ap (λ (x : Place). 2 * x.path + 1) same;
      upper_at = c.make_upper.ensures.at;
    }
