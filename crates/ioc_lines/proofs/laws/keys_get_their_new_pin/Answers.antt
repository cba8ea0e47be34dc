use Rattle.ioc_lines.proofs.PartLemmas.{pin_changes}
use Rattle.ioc_lines.proofs.laws.keys_get_their_new_pin.Goals as goal

pub returns : goal.returns
returns c = λ says name k dot h d some. pin_changes says k h dot d name some
