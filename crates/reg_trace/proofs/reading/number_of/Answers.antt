use Rattle.std.proofs.Common.{rules}
use Rattle.reg_trace.proofs.NumberLemmas.{parsed}
use Rattle.reg_trace.proofs.reading.number_of.Goals as goal

pub returns : goal.returns
returns c = parsed c.args.field.now c.parse_dec.result (search rules) c.parse_dec.ensures.some c.parse_dec.ensures.none
