use Rattle.dma_rules.proofs.BoxLemmas.{as_many_positions, as_many_rows}
use Rattle.dma_rules.proofs.streams.has_rows.Goals as goal

pub returns-clause-positions : goal.returns-clause-positions
returns-clause-positions c = as_many_positions c.args.requests.now c.args.at.now c.requires

pub returns-clause-rows : goal.returns-clause-rows
returns-clause-rows c = as_many_rows c.args.requests.now c.args.at.now c.requires
