use Rattle.std.proofs.Common.{rules}
use Rattle.std.specs.Ordering.{is_lt}
use Rattle.std.proofs.lemmas.Fn.{always_returns_same}
use Rattle.ioc_text.specs.Index.{mark_cmp}
use Rattle.ioc_text.proofs.Orders.{mark_ranks, index_of}
use Rattle.ioc_text.proofs.marks.sorted_marks.Goals as goal

pub returns : goal.returns
returns c =
    index_of c.args.lines.now c.in_ok-marks.marks.items c.sort_unstable_by.new.self.items c.in_ok-marks.ensures c.sort_unstable_by.ensures.permutation
    (c.sort_unstable_by.ensures.sorted (λ a b. is_lt (mark_cmp c.args.lines.now a b)) (mark_ranks c.args.lines.now) (always_returns_same _ _ _ (λ a r f h. search rules)))
