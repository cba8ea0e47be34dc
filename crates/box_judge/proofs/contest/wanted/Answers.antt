use Rattle.std.proofs.Common.{◌≤◌, ◌<◌, [], length, get_or, subst}
use Rattle.box_split.specs.BoxIn.{runs_in}
use Rattle.box_split.specs.Boxes.{Run}
use Rattle.box_rules.proofs.MemberLemmas.{inside_at, run_at}
use Rattle.box_judge.proofs.contest.wanted.Goals as goal

pub uses_in-requires-clause-ordered : goal.uses_in-requires-clause-ordered
uses_in-requires-clause-ordered c =
    let n = length c.args.uses.now in
    let h = inside_at c.args.uses.now (runs_in n c.args.lo.now c.args.hi.now) c.args.place c.requires.inside c.requires.place in
    subst (λ (r : Run). r.low ≤ r.high) (run_at n c.args.lo.now c.args.hi.now c.args.place c.requires.place c.requires.low c.requires.high) h.0

pub uses_in-requires-clause-inside : goal.uses_in-requires-clause-inside
uses_in-requires-clause-inside c =
    let n = length c.args.uses.now in
    let h = inside_at c.args.uses.now (runs_in n c.args.lo.now c.args.hi.now) c.args.place c.requires.inside c.requires.place in
    subst (λ (r : Run). r.high < length (get_or c.args.uses.now c.args.place [])) (run_at n c.args.lo.now c.args.hi.now c.args.place c.requires.place c.requires.low c.requires.high) h.1
