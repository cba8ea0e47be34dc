use Rattle.std.proofs.Common.{◌≡◌, List, IsSome, refl, sym, subst, ◌∙◌}
use Rattle.choice_rank.specs.declared.variable.VarShape.{VarShape}
use Rattle.box_split.specs.Boxes.{whole}
use Rattle.box_split.specs.BoxIn.{box_in}
use Rattle.box_split.proofs.PrefixLemmas.{same_box}
use Rattle.box_split.proofs.RunLemmas.{box_root}
use Rattle.can_timing.proofs.walk.all_timings.Goals as goal

pub of_path-requires : goal.of_path-requires
of_path-requires c = subst IsSome (sym (box_root c.args.s.now)) refl

pub returns : goal.returns
returns c =
    subst (λ (vs : List VarShape). box_in vs c.of_path.new.out ≡ whole vs) c.requires
    (same_box (box_in c.args.s.now c.of_path.new.out) (whole c.args.s.now) (sym c.of_path.ensures.found ∙ box_root c.args.s.now))
