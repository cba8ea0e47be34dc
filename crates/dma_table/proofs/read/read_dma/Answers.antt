use Rattle.dma_table.proofs.RequestLaws.{requests_keep_bounds}
use Rattle.dma_table.proofs.read.read_dma.Goals as goal

pub of-requires : goal.of-requires
of-requires c = requests_keep_bounds c.args.text.now c.in-Ok.requests c.in-Ok.ensures
