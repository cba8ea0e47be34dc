use Rattle.std.proofs.Common.{ap, ◌∙◌, rules}
use Rattle.res_model.specs.Numbers.{number_of}
use Rattle.res_model.proofs.NumberLaws.{parsed}
use Rattle.cmd_words.proofs.values.number_of.Goals as goal

pub returns : goal.returns
returns c = parsed c.as_bytes.result.now c.parse_dec.result (search rules) c.parse_dec.ensures.some c.parse_dec.ensures.none ∙ ap number_of c.as_bytes.ensures.value
