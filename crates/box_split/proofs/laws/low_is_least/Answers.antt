use Rattle.box_split.proofs.RunLemmas.{low_rank}
use Rattle.box_split.proofs.PathLemmas.{lows_choice}
use Rattle.box_split.proofs.PrefixLemmas.{lows_held}
use Rattle.box_split.proofs.LawLemmas.{lies, holds_in}
use Rattle.box_split.specs.Boxes.{lows}
use Rattle.box_split.proofs.laws.low_is_least.Goals as goal

pub returns : goal.returns
returns c = record {
  inside = λ vars b h. (lows_choice vars b h, lies b (lows b) (lows_held vars b h));
  least = λ vars b choice h. low_rank vars b choice (holds_in b choice h);
}
