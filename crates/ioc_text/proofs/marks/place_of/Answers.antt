use Rattle.std.proofs.Common.{◌∷◌, rules}
use Rattle.std.specs.Cmp.Lexicographic.{slice_cmp}
use Rattle.std.specs.Ordering.{nat_cmp}
use Rattle.std.proofs.lemmas.Fn.{always_returns_same}
use Rattle.ioc_text.specs.Index.{ranked}
use Rattle.ioc_text.specs.declared.marks.Mark.{Mark}
use Rattle.ioc_text.proofs.Orders.{mark_found, no_mark, searchable}
use Rattle.ioc_text.proofs.marks.place_of.Goals as goal

pub returns-in-Ok : goal.returns-in-Ok
returns-in-Ok c =
    mark_found c.args.marks.now c.args.lines.now c.requires.index c.args.key.now c.sum_of-sum.result c.sum_of-sum.ensures c.in-Ok.at (record { sum = 0; place = 0 }) c.requires.once c.in-Ok.ensures.bound
    (c.in-Ok.ensures.position (λ (m : Mark). slice_cmp nat_cmp (ranked c.args.lines.now m) (c.sum_of-sum.result ∷ c.args.key.now)) (always_returns_same _ _ _ (λ a r f h. search rules)))

pub returns-in-Err : goal.returns-in-Err
returns-in-Err c =
    no_mark c.args.marks.now c.args.lines.now c.requires.index c.args.key.now c.sum_of-sum.result c.sum_of-sum.ensures c.in-Err.field-0
    (c.in-Err.ensures.position (λ (m : Mark). slice_cmp nat_cmp (ranked c.args.lines.now m) (c.sum_of-sum.result ∷ c.args.key.now)) (always_returns_same _ _ _ (λ a r f h. search rules))
    (searchable c.args.marks.now c.args.lines.now c.requires.index (c.sum_of-sum.result ∷ c.args.key.now)))
