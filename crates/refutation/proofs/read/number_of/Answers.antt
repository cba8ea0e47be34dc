use Rattle.std.proofs.Common.{rules}
use Rattle.refutation.proofs.NumberLemmas.{parsed}
use Rattle.refutation.proofs.read.number_of.Goals as goal

pub returns : goal.returns
returns c = parsed c.args.field.now c.parse_dec.result (search rules) c.parse_dec.ensures.some c.parse_dec.ensures.none
