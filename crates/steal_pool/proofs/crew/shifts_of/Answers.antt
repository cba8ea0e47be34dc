use Rattle.std.proofs.Common.{◌≡◌, ◌+◌, ◌-◌, [], ◌∷◌, ◌++◌, Vec, Global, length, sym, ap, ◌∙◌, subst, arith, length-append}
use Rattle.res_base.specs.Lists.{Each}
use Rattle.res_base.proofs.ListLemmas.{each_prefix}
use Rattle.best_word.specs.declared.part.Part.TheVariants.{First}
use Rattle.best_word.specs.Word.{view_of, one_more_out}
use Rattle.path_deque.specs.declared.deque.Owner.{Owner}
use Rattle.path_deque.specs.declared.deque.Thief.{Thief}
use Rattle.path_deque.specs.declared.deque.Tally.{Tally}
use Rattle.path_deque.specs.Ends.{owner_deque}
use Rattle.steal_pool.specs.Crews.{owner_deques, IsFresh, IsFreshRow, IsSetUp, IsCrew}
use Rattle.steal_pool.proofs.CrewLemmas.{crew_push, crew_none}
use Rattle.steal_pool.proofs.RowLemmas.{map_snoc, no_items}
use Rattle.steal_pool.proofs.crew.shifts_of.Goals as goal

pub loop-owner-init : goal.loop-owner-init
loop-owner-init g c = record {
  seat = c.requires.seat.0;
  view = c.requires.seat.1 ∙ ap (λ n. view_of First n [] [] 0) (sym (ap length c.new-shifts.ensures.items));
  owners = c.requires.count.0;
  rows = c.requires.count.1;
  count = (let a = ap length c.new-shifts.ensures.items in omega (arith, a));
  fresh = c.requires.fresh;
  fresh_rows = c.requires.rows;
  crew = subst (λ ss. IsCrew (IsSetUp (g.J.Judge.meaning c.args.j.now) (g.J.Judge.fits c.args.j.now) c.args.word.now c.args.workers (owner_deques c.args.owners.items)) c.args.workers (owner_deques c.args.owners.items) (owner_deques c.args.owners.items) ss) (sym c.new-shifts.ensures.items)
      (crew_none (IsSetUp (g.J.Judge.meaning c.args.j.now) (g.J.Judge.fits c.args.j.now) c.args.word.now c.args.workers (owner_deques c.args.owners.items)) c.args.workers (owner_deques c.args.owners.items));
}

pub loop-owner-preserved : goal.loop-owner-preserved
loop-owner-preserved g c =
    let i = c.loop-owner.invariant in
    let m = g.J.Judge.meaning c.args.j.now in
    let all = owner_deques c.args.owners.items in
    let n = c.args.workers in
    let P = IsSetUp m (g.J.Judge.fits c.args.j.now) c.args.word.now n all in
    let rest = c.pop.new.self.items in
    let owner = c.in-Some.owner in
    let is : c.loop-owner.owners.items ≡ rest ++ owner ∷ [] = c.in-Some.ensures.items in
    let s = c.in_ok-shift.shift in
    let pushed = c.in_ok-push.ensures.items in
    let fresh = each_prefix (IsFresh n) rest owner (subst (Each (IsFresh n)) is i.fresh) in
    let row = each_prefix (IsFreshRow all) c.last_row-thieves.new.rows.items c.last_row-thieves.result (subst (Each (IsFreshRow all)) c.last_row-thieves.ensures i.fresh_rows) in
    let ids : owner_deques c.loop-owner.owners.items ≡ owner_deques rest ++ owner_deque owner ∷ [] = ap owner_deques is ∙ map_snoc owner_deque rest owner in
    let own : owner_deque owner ≡ owner_deque s.job.owner = sym c.in_ok-shift.ensures.is.1 in
    let less : c.loop-owner.number ≡ c.loop-owner.number - 1 + 1 = (let a = i.owners in let b = ap (length {A = Owner}) is in omega (arith, a, b, length-append rest (owner ∷ []))) in
    let longer : length (c.loop-owner.shifts.items ++ s ∷ []) ≡ length c.loop-owner.shifts.items + 1 = length-append c.loop-owner.shifts.items (s ∷ []) in
    let pushed_len = ap length pushed in
    record {
      seat = c.shift_of.ensures.seat;
      view = c.in_ok-shift.ensures.view ∙ (ap one_more_out i.view ∙ ap (λ k. view_of First k [] [] 0) (sym (pushed_len ∙ longer)));
      owners = (let a = i.owners in let b = ap (length {A = Owner}) is in omega (arith, a, b, length-append rest (owner ∷ [])));
      rows = (let a = i.rows in let b = ap (length {A = Vec Thief Global}) c.last_row-thieves.ensures in omega (arith, a, b, length-append c.last_row-thieves.new.rows.items (c.last_row-thieves.result ∷ [])));
      count = (let a = i.count in omega (arith, a, less, pushed_len, longer));
      fresh = fresh.0;
      fresh_rows = row.0;
      crew = subst (IsCrew P (c.loop-owner.number - 1) (owner_deques rest) all) (sym pushed)
          (crew_push P (c.loop-owner.number - 1) (owner_deques rest) all c.loop-owner.shifts.items s (c.in_ok-shift.ensures.set_up n all fresh.1 row.1) c.in_ok-shift.ensures.is.0
          (subst (λ k. IsCrew P k (owner_deques rest ++ owner_deque s.job.owner ∷ []) all c.loop-owner.shifts.items) less
          (subst (λ d. IsCrew P c.loop-owner.number (owner_deques rest ++ d ∷ []) all c.loop-owner.shifts.items) own
          (subst (λ ds. IsCrew P c.loop-owner.number ds all c.loop-owner.shifts.items) ids i.crew))));
    }

pub last_row-thieves-requires : goal.last_row-thieves-requires
last_row-thieves-requires g c = let i = c.loop-owner.invariant in let a = i.owners in let b = i.rows in let d = ap (length {A = Owner}) c.in-Some.ensures.items in omega (arith, a, b, d, length-append c.pop.new.self.items (c.in-Some.owner ∷ []))

pub shift_of-requires-clause-owner : goal.shift_of-requires-clause-owner
shift_of-requires-clause-owner g c κs within =
    let n = c.args.workers in
    ap (λ (t : Tally). t.part) (each_prefix (IsFresh n) c.pop.new.self.items c.in-Some.owner (subst (Each (IsFresh n)) c.in-Some.ensures.items c.loop-owner.invariant.fresh)).1

pub returns-clause-set_up : goal.returns-clause-set_up
returns-clause-set_up g c =
    let i = c.loop-owner.invariant in
    let m = g.J.Judge.meaning c.args.j.now in
    let all = owner_deques c.args.owners.items in
    let none : c.loop-owner.owners.items ≡ [] = no_items c.loop-owner.owners.items (let k = c.in_default.ensures.cases in omega arith) in
    let zero : c.loop-owner.number ≡ 0 = sym i.owners ∙ ap (length {A = Owner}) none in
    let full : length c.loop-owner.shifts.items ≡ c.args.workers = (let a = i.count in omega (arith, a, zero)) in (
      all,
      subst (λ n. IsCrew (IsSetUp m (g.J.Judge.fits c.args.j.now) c.args.word.now n all) 0 [] all c.loop-owner.shifts.items) (sym full)
          (subst (λ ds. IsCrew (IsSetUp m (g.J.Judge.fits c.args.j.now) c.args.word.now c.args.workers all) 0 ds all c.loop-owner.shifts.items) (ap owner_deques none)
          (subst (λ k. IsCrew (IsSetUp m (g.J.Judge.fits c.args.j.now) c.args.word.now c.args.workers all) k (owner_deques c.loop-owner.owners.items) all c.loop-owner.shifts.items) zero i.crew)),
    )
