use Rattle.ioc_lines.proofs.DivideLemmas.{key_stays, value_is}
use Rattle.ioc_lines.proofs.laws.keys_stay_with_other_values.Goals as goal

pub returns-clause-key : goal.returns-clause-key
returns-clause-key c = λ says value k h. key_stays says k h value

pub returns-clause-value : goal.returns-clause-value
returns-clause-value c = λ says value k h. value_is says k h value
