-- Names of timeouts.
use Rattle.std.proofs.Common.{◌≡◌, refl}
use Rattle.reg_machine.specs.declared.op.Timeout.{Timeout}
use Rattle.reg_machine.specs.declared.op.Timeout.TheVariants as timeout
use Rattle.c_print.specs.Text as c_text
use Rattle.reg_trace.specs.Lines.{timeout_name}

pub alike : (name : Timeout) → timeout_name name ≡ c_text.timeout_name name
unfolding timeout_name c_text.timeout_name
alike timeout.Hse = refl
alike timeout.Pll = refl
alike timeout.Latency = refl
alike timeout.Switch = refl
alike timeout.Over = refl
alike timeout.OverSwitch = refl
