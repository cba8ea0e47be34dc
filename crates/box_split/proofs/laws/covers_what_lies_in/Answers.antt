use Rattle.box_split.proofs.LawLemmas.{covered_lies, lies_covered}
use Rattle.box_split.proofs.laws.covers_what_lies_in.Goals as goal

pub returns : goal.returns
returns c vars path choice = (covered_lies vars path choice, lies_covered vars path choice)
