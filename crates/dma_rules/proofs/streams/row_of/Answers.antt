use Rattle.std.proofs.Common.{◌<◌, length, get_or, ap, subst, sym, ◌∙◌}
use Rattle.dma_model.specs.declared.table.DmaRequest.{DmaRequest}
use Rattle.dma_rules.specs.Streams.{row_at}
use Rattle.dma_rules.proofs.BoxLemmas.{position_is, row_is}
use Rattle.dma_rules.proofs.streams.row_of.Goals as goal

pub row_at-requires : goal.row_at-requires
row_at-requires c =
    subst (λ (r : DmaRequest). get_or c.args.at.now c.args.place 0 < length r.at) (sym c.request_at.ensures) (position_is c.args.requests.now c.args.at.now c.args.place c.requires.place c.requires.choice)

pub returns : goal.returns
returns c = c.row_at.ensures ∙ ap (λ (r : DmaRequest). row_at r (get_or c.args.at.now c.args.place 0)) c.request_at.ensures ∙ sym (row_is c.args.requests.now c.args.at.now c.args.place c.requires.place c.requires.choice)
