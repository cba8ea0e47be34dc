use Rattle.dma_rules.proofs.LawLemmas.{is_legal, own_streams}
use Rattle.dma_rules.proofs.laws.legal_choices_share_no_stream.Goals as goal

pub returns : goal.returns
returns c = λ requests choice i. (own_streams requests choice i, is_legal requests choice i)
