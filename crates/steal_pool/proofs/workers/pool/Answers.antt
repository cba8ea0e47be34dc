use Rattle.std.proofs.Common.{◌≡◌, ◌++◌, [], length, take, drop, sym, ap, ◌∙◌, subst, arith}
use Rattle.best_word.specs.declared.part.Part.TheVariants.{First}
use Rattle.best_word.specs.Handles.{best_view, judge_of}
use Rattle.best_word.specs.Word.{view_of}
use Rattle.steal_pool.specs.Crews.{AreBack, IsGathered}
use Rattle.steal_pool.proofs.RowLemmas.{whole}
use Rattle.steal_pool.proofs.workers.pool.Given.{Over}
use Rattle.steal_pool.proofs.workers.pool.Goals as goal
use Rattle.steal_pool.proofs.workers.pool.Goals.{After-run_all}

-- the workers as they are written back
back : (g : Over) (c : After-run_all g) → take c.in_ok-shifts.shifts.len (c.run_all.new.shifts ++ drop (length c.run_all.new.shifts) c.in_ok-shifts.shifts.items) ≡ c.run_all.new.shifts
back g c = whole c.run_all.new.shifts c.in_ok-shifts.shifts.items c.in_ok-shifts.shifts.len (omega arith) (c.run_all.ensures.count ∙ ap length c.as_mut_slice.ensures.value)

pub run_all-requires-clause-ready : goal.run_all-requires-clause-ready
run_all-requires-clause-ready g c κs within = rw c.as_mut_slice.ensures.value c.in_ok-shifts.ensures.set_up

pub gather-requires-clause-seat : goal.gather-requires-clause-seat
gather-requires-clause-seat g c κs within = (c.crew.ensures.seat, c.in_ok-shifts.ensures.view ∙ ap (λ n. view_of First n [] [] 0) (sym (ap length (back g (goal.at.gather-requires-clause-seat g c).After-run_all) ∙ (c.run_all.ensures.count ∙ ap length c.as_mut_slice.ensures.value))))

pub gather-requires-clause-back : goal.gather-requires-clause-back
gather-requires-clause-back g c κs within =
    rw (back g (goal.at.gather-requires-clause-back g c).After-run_all) (subst (λ j. AreBack (g.J.Judge.meaning j) c.args.word.now c.run_all.new.shifts) (sym c.requires.word) c.run_all.ensures.back)

pub complete-requires-clause-gathered : goal.complete-requires-clause-gathered
complete-requires-clause-gathered g c κs within =
    let count = ap length (back g (goal.at.complete-requires-clause-gathered g c).After-run_all) ∙ (c.run_all.ensures.count ∙ (ap length c.as_mut_slice.ensures.value ∙ c.in_ok-shifts.ensures.count)) in
    subst (λ j. IsGathered (g.J.Judge.meaning j) c.args.workers (best_view c.gather.new.seat) c.in_ok-gathered.gathered) c.requires.word
    (subst (λ n. IsGathered (g.J.Judge.meaning (judge_of c.args.word.now)) n (best_view c.gather.new.seat) c.in_ok-gathered.gathered) count c.in_ok-gathered.ensures.gathered)
