use Rattle.std.proofs.Common.{◌≡◌, List, sym, subst}
use Rattle.best_word.specs.Handles.{judge_of}
use Rattle.box_split.proofs.PathLemmas.{lows_choice}
use Rattle.box_split.specs.BoxIn.{box_in}
use Rattle.box_split.specs.Boxes.{IsBox, low_of, lows}
use Rattle.choice_rank.specs.declared.variable.VarShape.{VarShape}
use Rattle.search_api.specs.Accounts.{IsLegalRank}
use Rattle.core_rows.proofs.seats.offer_at.Goals as goal

-- the low of a box that the judge finds legal is the rank of a legal choice
pub offer-requires-clause-legal : goal.offer-requires-clause-legal
offer-requires-clause-legal g c κs within =
    let m = g.J.Judge.meaning c.args.judge.now in
    let b = c.of_path.new.out in
    let box = box_in m.shape b in
    let is_box : IsBox m.shape box = subst (λ (s : List VarShape). IsBox s (box_in s b)) c.shape-shape.ensures c.of_path.ensures.is_box in
    let least : c.low.result ≡ low_of m.shape box = subst (λ (s : List VarShape). c.low.result ≡ low_of s (box_in s b)) c.shape-shape.ensures c.low.ensures in
    let one = (g.met.J.Judge.lawful c.args.judge.now).legal_is_one box is_box (sym c.in-Legal.ensures.verdict) in
    subst (λ j. IsLegalRank (g.J.Judge.meaning j) c.low.result) (sym c.requires.word.0)
    record { choice = lows box; is_choice = lows_choice m.shape box is_box; is_legal = one.1; rank_is = sym least }
