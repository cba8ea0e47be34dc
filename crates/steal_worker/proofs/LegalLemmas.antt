-- The low of a legal box is the rank of a legal choice.
use Rattle.std.proofs.Common.{◌≡◌, List, ℕ, sym}
use Rattle.box_split.specs.Boxes.{Run, IsBox, lows, low_of}
use Rattle.box_split.proofs.PathLemmas.{lows_choice}
use Rattle.search_api.specs.declared.verdict.Verdict.TheVariants as verdict
use Rattle.search_api.specs.Meaning.{Meaning, IsLawful}
use Rattle.search_api.specs.Accounts.{IsLegalRank}

module _ (m : Meaning) (lawful : IsLawful m) (box : List Run) (is_box : IsBox m.shape box) (legal : m.verdict box ≡ verdict.Legal) (low : ℕ) (is : low ≡ low_of m.shape box) where
  pub legal_rank : IsLegalRank m low
  legal_rank = record { choice = lows box; is_choice = lows_choice m.shape box is_box; is_legal = (lawful.legal_is_one box is_box legal).1; rank_is = sym is }
