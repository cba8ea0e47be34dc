use Rattle.std.proofs.Common.{◌≡◌, ◌&&◌, length, true, sym, ap, ◌∙◌}
use Rattle.std.specs.Prelude.{nat_lt}
use Rattle.res_base.specs.VarSet.{set_size}
use Rattle.box_split.specs.BoxIn.{runs_in}
use Rattle.refute_check.specs.Counting.{are_of_class}
use Rattle.refute_check.proofs.CountLemmas.{hall_is, hall_not}
use Rattle.refute_check.proofs.halls.are_too_many.Goals as goal

pub returns-then-not-are_of_class : goal.returns-then-not-are_of_class
returns-then-not-are_of_class c =
    hall_not c.args.t.now c.args.class c.args.vars.now c.args.first c.args.uses.now (runs_in (length c.args.uses.now) c.args.lo.now c.args.hi.now) c.requires.inside (sym c.are_of_class.ensures ∙ c.if-not-are_of_class.true)

pub returns : goal.returns
returns c =
    let all : are_of_class c.args.class c.args.first c.args.uses.now c.args.vars.now ≡ true = sym c.are_of_class.ensures ∙ c.if-not-are_of_class.false in
    let rs = runs_in (length c.args.uses.now) c.args.lo.now c.args.hi.now in
    ap (λ k. nat_lt k c.len-2.result) c.len.ensures ∙ ap (λ k. nat_lt (set_size c.resources_of-found.result) k) c.len-2.ensures
    ∙ ap (λ b. b && nat_lt (set_size c.resources_of-found.result) (set_size c.args.vars.now)) (sym all)
    ∙ hall_is c.args.t.now c.args.class c.args.vars.now c.args.first c.args.uses.now rs c.resources_of-found.result c.requires.inside c.resources_of-found.ensures
