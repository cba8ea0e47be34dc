use Rattle.ioc_lines.proofs.KeyLemmas.{named_by_rest}
use Rattle.ioc_lines.proofs.laws.keys_of_pins_are_named.Goals as goal

pub returns : goal.returns
returns c = λ prefix rest bs e n. named_by_rest prefix rest bs e n
