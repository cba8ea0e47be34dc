use Rattle.std.proofs.Common.{◌≡◌, ◌+◌, false, true, drop, ap, sym, ◌∙◌, arith}
use Rattle.std.specs.List.{list_any}
use Rattle.dma_model.specs.declared.table.DmaRow.{DmaRow}
use Rattle.dma_rules.specs.Streams.{is_one_stream, row_of, rows_of}
use Rattle.dma_rules.proofs.BoxLemmas.{found_first, no_rows_from, passed_first, rows_from}
use Rattle.dma_rules.proofs.streams.is_taken_again.Goals as goal

pub returns-then-takes_stream_of : goal.returns-then-takes_stream_of
returns-then-takes_stream_of c =
    let rs = c.args.requests.now in
    let at = c.args.at.now in
    let rows = rows_of rs at in
    let k = c.loop-later.later in
    let first = row_of rs at c.args.place in
    let hit : is_one_stream first (row_of rs at k) ≡ true = ap (λ (r : DmaRow). is_one_stream r (row_of rs at k)) (sym c.row_of-row.ensures) ∙ sym c.takes_stream_of.ensures ∙ c.if-takes_stream_of.true in
    sym (sym c.loop-later.invariant ∙ found_first (is_one_stream first) rows k (row_of rs at k) (drop (k + 1) rows) (rows_from rs at c.requires.choice k c.loop-later-test.true) hit)

pub loop-later-preserved : goal.loop-later-preserved
loop-later-preserved c =
    let rs = c.args.requests.now in
    let at = c.args.at.now in
    let rows = rows_of rs at in
    let k = c.loop-later.later in
    let first = row_of rs at c.args.place in
    let miss : is_one_stream first (row_of rs at k) ≡ false = ap (λ (r : DmaRow). is_one_stream r (row_of rs at k)) (sym c.row_of-row.ensures) ∙ sym c.takes_stream_of.ensures ∙ c.if-takes_stream_of.false in
    passed_first (is_one_stream first) rows k (row_of rs at k) (drop (k + 1) rows) (rows_from rs at c.requires.choice k c.loop-later-test.true) miss ∙ c.loop-later.invariant

pub returns : goal.returns
returns c =
    let rs = c.args.requests.now in
    let at = c.args.at.now in
    ap (list_any (is_one_stream (row_of rs at c.args.place))) (sym (no_rows_from rs at c.requires.choice c.loop-later.later (omega arith))) ∙ c.loop-later.invariant
