use Rattle.std.proofs.Common.{rules, ◌^◌, ◌<◌, sym, ◌∙◌, arith}
use Rattle.c_print.specs.Text.{count}
use Rattle.c_print.specs.Prefixes.{BeginsNone, IsCount}
use Rattle.c_print.proofs.NumberLemmas.{count_none, count_no_number, count_other, count_found}
use Rattle.c_print.proofs.prefix.count_at.Goals as goal
use Rattle.c_print.proofs.prefix.count_at.Goals.{else-n-ge1-via-then-n-ge1+else-n, else-n-ge1-via-else-n-ge1}

pub returns-in_err-end : goal.returns-in_err-end
returns-in_err-end c = let none : BeginsNone count IsCount c.args.text.now = count_none c.args.text.now (sym c.place_of.ensures ∙ c.in_err-end.was) in search rules

pub returns-in_err-n : goal.returns-in_err-n
returns-in_err-n c =
    let none : BeginsNone count IsCount c.args.text.now = count_no_number c.args.text.now c.in_ok-end.end (sym c.place_of.ensures ∙ c.in_ok-end.was) c.in_err-n.ensures.none in search rules

pub returns-then-n : goal.returns-then-n
returns-then-n c = count_found c.args.text.now c.in_ok-end.end (sym c.place_of.ensures ∙ c.in_ok-end.was) c.in_ok-n.n (c.if-n-ge1.true, c.if-n.true) c.in_ok-n.ensures.some

pub returns-else-n-ge1 : goal.returns-else-n-ge1
returns-else-n-ge1 c =
    let n = c.in_ok-n.n in
    let small : n < 2 ^ 64 = search rules in
    let out : IsCount n → ⊥ = λ k. elim c.else-n-ge1.branch [ else-n-ge1-via-then-n-ge1+else-n w ↦ omega (arith, k.1, w.if-n.false) | else-n-ge1-via-else-n-ge1 w ↦ omega (arith, k.0, w.if-n-ge1.false) ] in
    count_other c.args.text.now c.in_ok-end.end (sym c.place_of.ensures ∙ c.in_ok-end.was) n small c.in_ok-n.ensures.some out
