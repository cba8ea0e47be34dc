use Rattle.std.proofs.Common.{◌+◌, drop, ap, sym, ◌∙◌, arith}
use Rattle.dma_rules.specs.Streams.{are_apart, row_of, rows_of}
use Rattle.dma_rules.proofs.BoxLemmas.{apart_so_far, no_rows_from, not_apart, rows_from}
use Rattle.dma_rules.proofs.streams.meets.Goals as goal

pub returns-then-is_taken_again : goal.returns-then-is_taken_again
returns-then-is_taken_again c =
    let rs = c.args.requests.now in
    let at = c.args.at.now in
    let k = c.loop-place.place in
    sym (sym c.loop-place.invariant ∙ not_apart (rows_of rs at) k (row_of rs at k) (drop (k + 1) (rows_of rs at)) (rows_from rs at c.requires k c.loop-place-test.true) (sym c.is_taken_again.ensures ∙ c.if-is_taken_again.true))

pub loop-place-preserved : goal.loop-place-preserved
loop-place-preserved c =
    let rs = c.args.requests.now in
    let at = c.args.at.now in
    let k = c.loop-place.place in
    apart_so_far (rows_of rs at) k (row_of rs at k) (drop (k + 1) (rows_of rs at)) (rows_from rs at c.requires k c.loop-place-test.true) (sym c.is_taken_again.ensures ∙ c.if-is_taken_again.false) ∙ c.loop-place.invariant

pub returns : goal.returns
returns c = ap are_apart (sym (no_rows_from c.args.requests.now c.args.at.now c.requires c.loop-place.place (omega arith))) ∙ c.loop-place.invariant
