use Rattle.std.proofs.Common.{ℕ, rules, sym, ◌∙◌}
use Rattle.std.specs.Cmp.Lexicographic.{slice_cmp}
use Rattle.std.specs.Ordering.{nat_cmp}
use Rattle.std.proofs.lemmas.Fn.{always_returns_same}
use Rattle.res_model.specs.NameOrder.{name_at}
use Rattle.res_model.proofs.NameLemmas.{signal_found, no_signal, searchable}
use Rattle.res_model.proofs.names.signal_in.Goals as goal

pub returns-in-Ok : goal.returns-in-Ok
returns-in-Ok c =
    c.signal_at.ensures ∙ signal_found c.args.signals.now c.args.places.now c.requires.order c.args.name.now c.in-Ok.at c.requires.differ c.in-Ok.ensures.bound
    (c.in-Ok.ensures.position (λ (p : ℕ). slice_cmp nat_cmp (name_at c.args.signals.now p) c.args.name.now) (always_returns_same _ _ _ (λ a r f h. search rules)))

pub returns-in-Err : goal.returns-in-Err
returns-in-Err c =
    sym (no_signal c.args.signals.now c.args.places.now c.requires.order c.args.name.now c.in-Err.field-0
    (c.in-Err.ensures.position (λ (p : ℕ). slice_cmp nat_cmp (name_at c.args.signals.now p) c.args.name.now) (always_returns_same _ _ _ (λ a r f h. search rules))
    (searchable c.args.signals.now c.args.places.now c.requires.order c.args.name.now)))
