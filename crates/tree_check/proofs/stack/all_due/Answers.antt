use Rattle.std.proofs.Common.{◌≡◌, List, [], ◌∷◌, ◌++◌, sym, ap, ◌∙◌, refl}
use Rattle.box_split.specs.declared.buffer.BoxBuf.{BoxBuf}
use Rattle.box_split.specs.BoxIn.{box_in}
use Rattle.box_split.specs.Boxes.{Run, whole}
use Rattle.box_split.proofs.PrefixLemmas.{same_box}
use Rattle.box_split.proofs.RunLemmas.{box_root}
use Rattle.tree_check.specs.Due.{boxes_of}
use Rattle.tree_check.proofs.stack.all_due.Goals as goal

pub of_path-requires : goal.of_path-requires
of_path-requires c = rw (box_root c.args.s.now) refl

pub returns-clause-boxes : goal.returns-clause-boxes
returns-clause-boxes c =
    let b = c.of_path.new.out in
    let is : box_in c.args.s.now b ≡ whole c.args.s.now = same_box (box_in c.args.s.now b) (whole c.args.s.now) (sym c.of_path.ensures.found ∙ box_root c.args.s.now) in
    ap (boxes_of c.args.s.now) (c.in_ok-push.ensures.items ∙ ap (λ (bs : List BoxBuf). bs ++ b ∷ []) c.new-due.ensures.items) ∙ ap (λ (x : List Run). x ∷ []) is
