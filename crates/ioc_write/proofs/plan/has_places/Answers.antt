use Rattle.std.proofs.Common.{◌∙◌, drop, sym}
use Rattle.problem.proofs.ChoiceUses.{drop_choice, first_fits, length_uses}
use Rattle.ioc_write.proofs.plan.has_places.Goals as goal

pub returns-clause-first : goal.returns-clause-first
returns-clause-first c =
    let p = c.args.p.now in
    first_fits p.shape p.first p.clock c.args.at.now c.parts_agree.ensures.first c.parts_agree.ensures.clock_sizes c.requires

pub returns-clause-as_many : goal.returns-clause-as_many
returns-clause-as_many c =
    let p = c.args.p.now in
    length_uses (drop p.first p.shape) p.uses (drop p.first c.args.at.now) c.parts_agree.ensures.use_sizes (drop_choice p.first p.shape c.args.at.now c.requires)
    ∙ sym c.parts_agree.ensures.signals
