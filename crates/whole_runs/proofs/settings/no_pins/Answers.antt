use Rattle.std.proofs.Common.{arith}
use Rattle.whole_runs.proofs.PinLemmas.{whole_none}
use Rattle.whole_runs.proofs.settings.no_pins.Goals as goal

pub returns : goal.returns
returns c = whole_none 144 (omega arith)
