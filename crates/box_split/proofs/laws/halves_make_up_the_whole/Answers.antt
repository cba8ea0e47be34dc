use Rattle.box_split.proofs.RunLemmas.{halves_count}
use Rattle.box_split.proofs.laws.halves_make_up_the_whole.Goals as goal

pub returns : goal.returns
returns c vars path b choice at open_box = halves_count vars path b at open_box choice
