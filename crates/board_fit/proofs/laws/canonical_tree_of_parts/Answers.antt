use Rattle.board_fit.proofs.BoardLemmas as boards
use Rattle.board_fit.proofs.UnplacedLemmas as pins
use Rattle.board_fit.proofs.laws.canonical_tree_of_parts.Goals as goal

pub returns-clause-leaf : goal.returns-clause-leaf
returns-clause-leaf c t p opts nodes board none canonical = (pins.unplaced_leaf t p opts board none nodes canonical).is_hall

pub returns-clause-unplaced : goal.returns-clause-unplaced
returns-clause-unplaced c t p opts nodes board none canonical =
    let leaf : pins.IsLeaf t p opts board nodes = pins.unplaced_leaf t p opts board none nodes canonical in
    (leaf.canonical, leaf.accepted)

pub returns-clause-unclocked : goal.returns-clause-unclocked
returns-clause-unclocked c t p opts at nodes board placement ok none canonical = boards.kept_nodes t p opts board at placement ok nodes none canonical
