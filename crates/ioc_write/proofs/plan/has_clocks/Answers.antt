use Rattle.std.proofs.Common.{◌≡◌, ◌≤◌, length, arith}
use Rattle.problem.proofs.ChoiceUses.{first_fits, length_choice}
use Rattle.ioc_write.proofs.plan.has_clocks.Goals as goal

pub returns-clause-at : goal.returns-clause-at
returns-clause-at c =
    let p = c.args.p.now in
    let ten = (c.parts_agree.ensures.clock c.requires.whole).ten in
    let first = c.parts_agree.ensures.first in
    let fits : p.first ≤ length c.args.at.now = first_fits p.shape p.first p.clock c.args.at.now first c.parts_agree.ensures.clock_sizes c.requires.choice in
    omega (arith, ten, first, fits)

pub returns-clause-shape : goal.returns-clause-shape
returns-clause-shape c =
    let p = c.args.p.now in
    let ten = (c.parts_agree.ensures.clock c.requires.whole).ten in
    let first = c.parts_agree.ensures.first in
    let fits : p.first ≤ length c.args.at.now = first_fits p.shape p.first p.clock c.args.at.now first c.parts_agree.ensures.clock_sizes c.requires.choice in
    let same : length c.args.at.now ≡ length p.shape = length_choice p.shape c.args.at.now c.requires.choice in
    omega (arith, ten, first, fits, same)
