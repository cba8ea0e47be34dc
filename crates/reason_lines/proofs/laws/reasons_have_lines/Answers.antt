use Rattle.reason_lines.proofs.LineLemmas.{have_lines}
use Rattle.reason_lines.proofs.laws.reasons_have_lines.Goals as goal

pub returns : goal.returns
returns c = have_lines
