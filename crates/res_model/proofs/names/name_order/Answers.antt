use Rattle.std.proofs.Common.{ℕ, List, rules, subst, sym}
use Rattle.std.specs.Ordering.{is_lt}
use Rattle.std.proofs.lemmas.Fn.{always_returns_same}
use Rattle.res_model.specs.NameOrder.{name_cmp, IsNameOrder}
use Rattle.res_model.proofs.NameLemmas.{name_ranks, order_of}
use Rattle.res_model.proofs.names.name_order.Goals as goal

pub returns : goal.returns
returns c =
    subst (λ (ps : List ℕ). IsNameOrder ps c.args.signals.now) (sym c.of.ensures)
    (order_of c.args.signals.now c.in_ok-places.places.items c.sort_unstable_by.new.self.items c.in_ok-places.ensures c.sort_unstable_by.ensures.permutation
    (c.sort_unstable_by.ensures.sorted (λ a b. is_lt (name_cmp c.args.signals.now a b)) (name_ranks c.args.signals.now) (always_returns_same _ _ _ (λ a r f h. search rules))))
