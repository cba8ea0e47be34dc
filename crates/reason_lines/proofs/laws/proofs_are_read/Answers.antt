use Rattle.reason_lines.proofs.LineLemmas.{are_read}
use Rattle.reason_lines.proofs.laws.proofs_are_read.Goals as goal

pub returns : goal.returns
returns c = are_read
