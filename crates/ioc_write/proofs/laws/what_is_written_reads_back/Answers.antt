use Rattle.ioc_write.proofs.FewLemmas.{few_pins}
use Rattle.ioc_write.proofs.PutBack.{reads_back}
use Rattle.ioc_write.proofs.laws.what_is_written_reads_back.Goals as goal

pub returns : goal.returns
returns c = λ text opts p at out valid agree choice fit range few i wrote. reads_back text opts p at out valid agree choice fit range (few_pins text p few agree.few) i wrote
