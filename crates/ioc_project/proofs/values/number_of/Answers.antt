use Rattle.std.proofs.Common.{rules}
use Rattle.res_model.proofs.NumberLaws.{parsed}
use Rattle.ioc_project.proofs.values.number_of.Goals as goal

pub returns : goal.returns
returns c = parsed c.args.text.now c.parse_dec.result (search rules) c.parse_dec.ensures.some c.parse_dec.ensures.none
