use Rattle.std.proofs.Common.{◌≡◌, ◌+◌, ◌≤◌, ◌<◌, ◌&&◌, ◌||◌, List, [], length, get_or, drop, subst, sym, ap, ◌∙◌, arith}
use Rattle.res_base.specs.declared.var_set.VarSet.{VarSet}
use Rattle.res_base.specs.VarSet.{in_set}
use Rattle.box_split.specs.BoxIn.{runs_in}
use Rattle.box_split.specs.Boxes.{Run}
use Rattle.res_model.specs.declared.table.PinUse.{PinUse}
use Rattle.box_rules.specs.Contest.{competes, uses_in}
use Rattle.box_rules.proofs.MemberLemmas.{inside_at, run_at}
use Rattle.refute_check.specs.Counting.{has_resource, is_used}
use Rattle.refute_check.proofs.CountLemmas.{counted, passed}
use Rattle.refute_check.proofs.halls.resources_of.Goals as goal
use Rattle.refute_check.proofs.halls.resources_of.Goals.{After-is_in, then-is_in, else-is_in}

pub uses_in-requires-clause-ordered : goal.uses_in-requires-clause-ordered
uses_in-requires-clause-ordered c =
    let n = length c.args.uses.now in
    let h = inside_at c.args.uses.now (runs_in n c.args.lo.now c.args.hi.now) c.loop-s.s c.requires.inside c.loop-s-test.true in
    subst (λ (r : Run). r.low ≤ r.high) (run_at n c.args.lo.now c.args.hi.now c.loop-s.s c.loop-s-test.true c.requires.low c.requires.high) h.0

pub uses_in-requires-clause-inside : goal.uses_in-requires-clause-inside
uses_in-requires-clause-inside c =
    let n = length c.args.uses.now in
    let h = inside_at c.args.uses.now (runs_in n c.args.lo.now c.args.hi.now) c.loop-s.s c.requires.inside c.loop-s-test.true in
    let inside = subst (λ (r : Run). r.high < length (get_or c.args.uses.now c.loop-s.s [])) (run_at n c.args.lo.now c.args.hi.now c.loop-s.s c.loop-s-test.true c.requires.low c.requires.high) h.1 in
    omega (arith, inside, ap length c.uses_of-us.ensures)

-- whether the signal counts
is_in : (c : After-is_in) → c.is_in.result ≡ (competes c.args.class (get_or c.args.uses.now c.loop-s.s []) && in_set c.args.vars.now (c.args.first + c.loop-s.s))
is_in c = c.is_in.ensures ∙ ap (λ (us : List PinUse). competes c.args.class us && in_set c.args.vars.now (c.args.first + c.loop-s.s)) c.uses_of-us.ensures

pub loop-s-preserved : goal.loop-s-preserved
loop-s-preserved c r =
    let i = is_in (goal.at.loop-s-preserved c).After-is_in in
    let s = c.loop-s.s in
    let uses = c.args.uses.now in
    let rs = runs_in (length uses) c.args.lo.now c.args.hi.now in
    elim c.if-is_in.branch [
      | then-is_in w ↦
          let here : w.uses_in.result.now ≡ uses_in (get_or uses s []) record { low = get_or c.args.lo.now s 0; high = get_or c.args.hi.now s 0 } =
          w.uses_in.ensures ∙ ap (λ (us : List PinUse). uses_in us record { low = get_or c.args.lo.now s 0; high = get_or c.args.hi.now s 0 }) c.uses_of-us.ensures in
          let more = ap (λ (f : VarSet). in_set f r) w.found-is ∙ w.add_resources.ensures r ∙ ap (λ (us : List PinUse). in_set c.loop-s.found r || has_resource c.args.t.now c.args.class us r) here in
          counted c.args.t.now c.args.class c.args.vars.now c.args.first uses c.args.lo.now c.args.hi.now c.requires.low c.requires.high s r (in_set c.loop-s.found r) (in_set c.if-is_in.found r) c.loop-s-test.true (sym i ∙ w.if-is_in.true) more
          ∙ c.loop-s.invariant r
      | else-is_in w ↦
          ap (λ (f : VarSet). in_set f r || is_used c.args.t.now c.args.class c.args.vars.now (c.args.first + (s + 1)) (drop (s + 1) uses) (drop (s + 1) rs) r) w.found-is
          ∙ passed c.args.t.now c.args.class c.args.vars.now c.args.first uses c.args.lo.now c.args.hi.now c.requires.low c.requires.high s r (in_set c.loop-s.found r) c.loop-s-test.true (sym i ∙ w.if-is_in.false)
          ∙ c.loop-s.invariant r
    ]
