use Rattle.refutation.proofs.FitLemmas.{canonical_fits, canonical_read}
use Rattle.refutation.proofs.laws.canonical_is_read.Goals as goal

pub returns : goal.returns
returns c = record {
  fits = λ m bound nodes lawful lines canonical. canonical_fits m bound lawful lines nodes canonical;
  read = λ m bound nodes before lawful lines fits canonical passed. canonical_read m bound lawful lines nodes before fits canonical passed;
}
