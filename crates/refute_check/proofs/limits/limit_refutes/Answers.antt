use Rattle.std.proofs.Common.{◌≡◌, ℕ, List, take, sym, ap, subst, ◌∙◌}
use Rattle.box_split.specs.BoxIn.{box_in}
use Rattle.problem.specs.declared.parts.ProblemParts.{ProblemParts}
use Rattle.problem.specs.Problem.{HaveValues}
use Rattle.res_model.specs.declared.clock.ClockBox.{ClockBox}
use Rattle.res_model.specs.declared.clock.Facts.{Facts}
use Rattle.res_model.specs.declared.table.TableParts.{TableParts}
use Rattle.clock_limits.specs.Ranges.{IsClockBox, limit_refutes}
use Rattle.box_rules.specs.Judged.{clock_box}
use Rattle.box_rules.proofs.WholeLemmas.{is_clock_box}
use Rattle.refute_check.proofs.ClockLemmas.{clock_box_is}
use Rattle.refute_check.proofs.limits.limit_refutes.Goals as goal
use Rattle.refute_check.proofs.limits.limit_refutes.Goals.{After-clock_box}

values_are : (c : After-clock_box) → c.as_slice-values.result.now ≡ c.args.p.now.clock
values_are c = c.as_slice-values.ensures ∙ ap (λ (q : ProblemParts). q.clock) c.parts-parts.ensures

box_is : (c : After-clock_box) → ◌≡◌ {A = ClockBox} c.clock_box.result record { lo = take 10 c.args.b.now.lo; hi = take 10 c.args.b.now.hi }
box_is c = ap (λ (xs : List ℕ). record { lo = xs; hi = c.clock_box.result.hi }) c.clock_box.ensures.lo ∙ ap (λ (xs : List ℕ). record { lo = take 10 c.args.b.now.lo; hi = xs }) c.clock_box.ensures.hi

-- the runs that are read are those of the box
clocks_are : (c : After-clock_box) → c.clock_box.result ≡ clock_box (box_in c.args.p.now.shape c.args.b.now)
clocks_are c =
    let p = c.args.p.now in
    let w = c.requires.whole in
    let sizes = subst (λ (n : ℕ). HaveValues (take n p.shape) p.clock) (w.first ∙ sym w.clock.ten) w.clock_sizes in
    box_is c ∙ clock_box_is p.shape p.clock c.args.b.now.lo c.args.b.now.hi w.clock.ten sizes c.requires.is_box

pub is_refuted_by-requires-clause-is_box : goal.is_refuted_by-requires-clause-is_box
is_refuted_by-requires-clause-is_box d =
    let c = (goal.at.is_refuted_by-requires-clause-is_box d).After-clock_box in
    let p = c.args.p.now in
    subst (λ (xs : List (List ℕ)). IsClockBox xs c.clock_box.result) (sym (values_are c))
    (subst (λ (x : ClockBox). IsClockBox p.clock x) (sym (clocks_are c))
    (is_clock_box p c.requires.whole (box_in p.shape c.args.b.now) c.requires.is_box))

pub returns : goal.returns
returns d =
    let c = (goal.at.returns d).After-clock_box in
    let p = c.args.p.now in
    let q = c.parts-parts.result.now in
    d.is_refuted_by.ensures
    ∙ ap (λ (t : TableParts). limit_refutes t q.facts c.as_slice-values.result.now c.clock_box.result c.args.limit) (ap (λ (x : ProblemParts). x.tables) c.parts-parts.ensures)
    ∙ ap (λ (f : Facts). limit_refutes p.tables f c.as_slice-values.result.now c.clock_box.result c.args.limit) (ap (λ (x : ProblemParts). x.facts) c.parts-parts.ensures)
    ∙ ap (λ (xs : List (List ℕ)). limit_refutes p.tables p.facts xs c.clock_box.result c.args.limit) (values_are c)
    ∙ ap (λ (x : ClockBox). limit_refutes p.tables p.facts p.clock x c.args.limit) (clocks_are c)
