use Rattle.std.proofs.Common.{List, ℕ, ◌≡◌, set, length, MatchOption, refl, subst, arith, ap}
use Rattle.std.proofs.lemmas.Option.{slice_get_read}
use Rattle.search_core.specs.Ends.{IsEmptyAt, TakesFirst}
use Rattle.search_core.proofs.EndLemmas.{took_first}
use Rattle.search_core.proofs.hands.take_first.Goals as goal

pub returns : goal.returns
returns c =
    let all = c.as_vec_mut.result.now.items in
    let r = c.pop_first.result in
    let at = slice_get_read all (length all) c.args.w c.index_mut.result.now refl (omega (arith, ap (length {A = List ℕ}) c.as_vec_mut.ensures.now, c.len.ensures, c.if-w-len.false)) c.index_mut.ensures.value in
    subst (λ (xs : List (List ℕ)). MatchOption r ((set all c.args.w c.pop_first.new.deque ≡ xs) × IsEmptyAt xs c.args.w) (λ path. TakesFirst xs c.args.w path (set all c.args.w c.pop_first.new.deque)))
    c.as_vec_mut.ensures.now
    (took_first all c.args.w r c.index_mut.result.now c.pop_first.new.deque at c.pop_first.ensures)
