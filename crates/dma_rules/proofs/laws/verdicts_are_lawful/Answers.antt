use Rattle.dma_rules.specs.Lawful.{dma_lawful}
use Rattle.dma_rules.proofs.laws.verdicts_are_lawful.Goals as goal

pub returns : goal.returns
returns c = λ requests j. dma_lawful requests j
