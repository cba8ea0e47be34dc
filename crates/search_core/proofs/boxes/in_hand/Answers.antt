use Rattle.std.proofs.Common.{List, sym, subst}
use Rattle.std.specs.Prelude.{IsSome}
use Rattle.choice_rank.specs.declared.variable.VarShape.{VarShape}
use Rattle.res_base.proofs.ListLemmas.{each_in}
use Rattle.box_split.specs.Paths.{box_of}
use Rattle.search_core.specs.Fits.{entries}
use Rattle.search_core.proofs.EntryLemmas.{path_member}
use Rattle.search_core.proofs.boxes.in_hand.Goals as goal

pub of_path-requires : goal.of_path-requires
of_path-requires g c =
    let core = c.args.core.now in
    let path = c.in_ok-path.path in
    let m = g.J.Judge.meaning c.args.j.now in
    subst (λ (vs : List VarShape). IsSome (box_of vs path)) (sym c.shape-shape.ensures)
    (each_in (λ p. IsSome (box_of m.shape p)) path (entries core) c.requires.paths (path_member core c.args.w c.in_ok-hand.hand path (sym c.in_ok-hand.ensures) c.in_ok-path.was))
