use Rattle.std.proofs.Common.{◌<◌, List, length, get_or, subst, sym, ap, ◌∙◌}
use Rattle.res_base.specs.Lists.{Each}
use Rattle.res_base.specs.VarSet.{in_set}
use Rattle.dma_model.specs.declared.table.DmaRequest.{DmaRequest}
use Rattle.dma_model.specs.declared.table.DmaRow.{DmaRow}
use Rattle.dma_rules.specs.Judged.{IsStream, has_stream, rows_in}
use Rattle.dma_rules.proofs.BoxLemmas.{bounds_at, can_have_at, from_none, run_at, streams_in}
use Rattle.dma_rules.proofs.judge.can_have.Goals as goal

pub rows_in-requires-clause-ordered : goal.rows_in-requires-clause-ordered
rows_in-requires-clause-ordered c = (bounds_at c.args.requests.now c.args.lo.now c.args.hi.now c.args.place c.requires.place c.requires.is_box).0

pub rows_in-requires-clause-inside : goal.rows_in-requires-clause-inside
rows_in-requires-clause-inside c = subst (λ (r : DmaRequest). get_or c.args.hi.now c.args.place 0 < length r.at) (sym c.request_at-request.ensures) (bounds_at c.args.requests.now c.args.lo.now c.args.hi.now c.args.place c.requires.place c.requires.is_box).1

pub add_streams-requires : goal.add_streams-requires
add_streams-requires c =
    subst (Each IsStream) (sym (c.rows_in.ensures ∙ ap (λ (r : DmaRequest). rows_in r (run_at c.args.lo.now c.args.hi.now c.args.place)) c.request_at-request.ensures)) (streams_in c.args.requests.now c.args.place (run_at c.args.lo.now c.args.hi.now c.args.place) c.requires.place c.requires.judged.rows)

pub returns : goal.returns
returns c s =
    c.add_streams.ensures s
    ∙ from_none (in_set c.new-found.result s) (has_stream c.rows_in.result.now s) (c.new-found.ensures s)
    ∙ ap (λ (rows : List DmaRow). has_stream rows s) (c.rows_in.ensures ∙ ap (λ (r : DmaRequest). rows_in r (run_at c.args.lo.now c.args.hi.now c.args.place)) c.request_at-request.ensures)
    ∙ sym (can_have_at c.args.requests.now c.args.lo.now c.args.hi.now c.args.place s c.requires.place c.requires.is_box)
