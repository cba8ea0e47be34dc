use Rattle.std.proofs.Common.{ℕ, Some, length, sym, ◌∙◌, ap, arith}
use Rattle.box_split.specs.BoxIn.{runs_in}
use Rattle.box_split.proofs.RunLemmas.{box_root}
use Rattle.box_split.proofs.PathLemmas.{box_zero, no_half, single_half, lower_half, upper_half}
use Rattle.box_split.proofs.WalkLemmas.{Found, found_first, not_found}
use Rattle.box_split.proofs.walk.+walk.Goals as goal
use Rattle.box_split.proofs.walk.+walk.Goals.{In-Some-split_in}

pub returns-then-path-eq0-clause-found : goal.returns-then-path-eq0-clause-found
returns-then-path-eq0-clause-found t c = rw c.if-path-eq0.true (box_zero c.args.vars.now)

pub returns-then-path-eq1-clause-found : goal.returns-then-path-eq1-clause-found
returns-then-path-eq1-clause-found t c = rw c.if-path-eq1.true (box_root c.args.vars.now ∙ ap Some (sym c.make_whole.ensures))

pub returns-in_default-clause-found : goal.returns-in_default-clause-found
returns-in_default-clause-found t c = no_half c.args.vars.now c.args.path (omega arith) c.in_default.ensures.found

pub returns-in_default-split_in-clause-found : goal.returns-in_default-split_in-clause-found
returns-in_default-split_in-clause-found t c =
    single_half c.args.vars.now c.args.path (runs_in (length c.args.vars.now) c.walk.new.lo c.walk.new.hi) (omega arith) c.in-Some.ensures.found
    (not_found (length c.args.vars.now) c.walk.new.lo c.walk.new.hi 0 (sym c.in_default-split_in.ensures.split))

first : (t : ℕ) (c : In-Some-split_in t) → Found (length c.args.vars.now) c.walk.new.lo c.walk.new.hi c.in-Some-split_in.variable c.in-Some-split_in.after
first t c = found_first (length c.args.vars.now) c.walk.new.lo c.walk.new.hi c.in-Some-split_in.variable c.in-Some-split_in.after (omega arith) (omega arith) c.in-Some-split_in.ensures.split

pub returns-then-path-eq0-2-clause-found : goal.returns-then-path-eq0-2-clause-found
returns-then-path-eq0-2-clause-found t c =
    let f = first t (goal.at.returns-then-path-eq0-2-clause-found t c).In-Some-split_in in
    lower_half c.args.vars.now c.args.path (runs_in (length c.args.vars.now) c.walk.new.lo c.walk.new.hi) (omega arith) c.if-path-eq0-2.true c.in-Some.ensures.found f.open_box ∙ ap Some f.low_half

pub returns-else-path-eq0-2-clause-found : goal.returns-else-path-eq0-2-clause-found
returns-else-path-eq0-2-clause-found t c =
    let f = first t (goal.at.returns-else-path-eq0-2-clause-found t c).In-Some-split_in in
    upper_half c.args.vars.now c.args.path (runs_in (length c.args.vars.now) c.walk.new.lo c.walk.new.hi) (omega arith) (omega arith) c.in-Some.ensures.found f.open_box ∙ ap Some f.high_half
