use Rattle.std.proofs.Common.{length, subst, arith, rules}
use denote.Param.Send.{sendable}
use Rattle.std.specs.Prelude.{slice_index_or}
use Rattle.steal_pool.specs.Crews.{Ran, IsSetUp}
use Rattle.steal_pool.proofs.CrewLemmas.{all_back}
use Rattle.steal_pool.proofs.RowLemmas.{each_or, along_or}
use Rattle.steal_pool.proofs.shift.run_all.Goals as goal

pub returns-clause-back : goal.returns-clause-back
returns-clause-back g c =
    let m = g.J.Judge.meaning c.args.j.now in
    let word = c.args.word.now in
    let old = c.args.shifts.now in
    let new = c.for_each_mut.new.s in
    all_back m (g.J.Judge.fits c.args.j.now) word old new (along_or (Ran m word) old new (omega arith) (λ i d lt.
    let k = (c.for_each_mut.ensures i d lt).1 in
    let p : Ran m word k.argument.now k.after_call.now = search rules in
    subst (λ x. Ran m word x (slice_index_or new i d)) k.argument_is (subst (λ y. Ran m word k.argument.now y) k.left p))) c.requires.ready

pub for_each_mut-requires-clause-accepts : goal.for_each_mut-requires-clause-accepts
for_each_mut-requires-clause-accepts g c κs within = λ i p lt e.
    let m = g.J.Judge.meaning c.args.j.now in
    let shifts = c.args.shifts.now in
    ((c.requires.word, (each_or (IsSetUp m (g.J.Judge.fits c.args.j.now) c.args.word.now (length shifts) c.requires.ready.0) shifts i p.now lt e c.requires.ready.1.each).ready), search sendable depth 20)
