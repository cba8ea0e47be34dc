use Rattle.init_gen.specs.Writes.{writes_of}
use Rattle.access_lines.proofs.FitLemmas.{writes_fit}
use Rattle.access_lines.proofs.laws.accesses_are_read.Goals as goal

pub returns : goal.returns
returns c = record {
  fit = writes_fit;
  read = λ s settable. c.written_is_read.ensures.read (writes_of s) (writes_fit s settable);
  alone = λ s read settable reads. c.written_is_read.ensures.alone (writes_of s) read (writes_fit s settable) reads;
}
