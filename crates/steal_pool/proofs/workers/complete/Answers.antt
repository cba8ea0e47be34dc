use Rattle.std.proofs.Common.{◌≡◌, ℕ, ◌+◌, ◌≤◌, sym, ap, subst, arith}
use Rattle.std.proofs.lemmas.Result.{IfOk-weaker}
use Rattle.res_base.specs.Lists.{Each, total}
use Rattle.best_word.specs.Handles.{best_view}
use Rattle.search_api.specs.declared.outcome.Closed.{Closed}
use Rattle.search_api.proofs.AnswerLemmas.{answer}
use Rattle.steal_pool.specs.Joined.{put_by, got_by, stolen_by, IsWhole}
use Rattle.steal_pool.proofs.EndLemmas.{whole_search, numbered}
use Rattle.steal_pool.proofs.workers.complete.Given.{Over}
use Rattle.steal_pool.proofs.workers.complete.Goals as goal
use Rattle.steal_pool.proofs.workers.complete.Goals.{In_ok-put_all}

is_whole : (g : Over) (c : In_ok-put_all g) → IsWhole (g.J.Judge.meaning c.args.j.now) (c.args.workers + 1) (best_view c.close_rest.new.seat) c.put_all.new.all
is_whole g c =
    let m = g.J.Judge.meaning c.args.j.now in
    let gathered = c.args.gathered in
    let even : (h : ℕ → ℕ) → put_by h gathered.owners.items + 0 ≡ got_by h gathered.owners.items + stolen_by h gathered.rows.items + total h c.close_all.new.left.items = λ h.
    let a : total h c.new-left.result.items ≡ 0 = ap (total h) c.new-left.ensures.items in
    let b = c.in_ok-close_all.ensures h in omega (arith, a, b) in
    subst (IsWhole m (c.args.workers + 1) (best_view c.close_rest.new.seat)) (sym c.in_ok-put_all.ensures)
    (whole_search m c.args.workers gathered c.close_all.new.left.items (best_view c.args.seat.now) (best_view c.close_rest.new.seat) c.in_ok-more.more c.requires.workers c.requires.gathered even c.in_ok-more.ensures.worked)

pub returns-clause-accounted : goal.returns-clause-accounted
returns-clause-accounted g c =
    let m = g.J.Judge.meaning c.args.j.now in
    IfOk-weaker c.outcome_of.result _ _ (λ o f. (f.1 m (c.args.workers + 1) (is_whole g (goal.at.returns-clause-accounted g c).In_ok-put_all)).0) c.outcome_of.ensures.whole

pub returns-clause-knows : goal.returns-clause-knows
returns-clause-knows g c =
    let m = g.J.Judge.meaning c.args.j.now in
    IfOk-weaker c.outcome_of.result _ _ (λ o f. (f.1 m (c.args.workers + 1) (is_whole g (goal.at.returns-clause-knows g c).In_ok-put_all)).1) c.outcome_of.ensures.whole

pub returns-clause-workers : goal.returns-clause-workers
returns-clause-workers g c =
    let m = g.J.Judge.meaning c.args.j.now in
    IfOk-weaker c.outcome_of.result _ _ (λ o f. subst (Each (λ (e : Closed). e.worker ≤ c.args.workers)) (sym f.0) (numbered m c.args.workers (best_view c.close_rest.new.seat) c.put_all.new.all (is_whole g (goal.at.returns-clause-workers g c).In_ok-put_all))) c.outcome_of.ensures.whole

pub returns-clause-answer : goal.returns-clause-answer
returns-clause-answer g c =
    let m = g.J.Judge.meaning c.args.j.now in
    IfOk-weaker c.outcome_of.result _ _ (λ o f. answer m (g.met.J.Judge.lawful c.args.j.now) o.best o.kept o.closed (f.1 m (c.args.workers + 1) (is_whole g (goal.at.returns-clause-answer g c).In_ok-put_all)).0) c.outcome_of.ensures.whole
