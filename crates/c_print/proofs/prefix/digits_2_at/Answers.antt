use Rattle.std.proofs.Common.{rules}
use Rattle.c_print.specs.Text.{digits_2}
use Rattle.c_print.specs.Prefixes.{BeginsNone, Below}
use Rattle.c_print.proofs.NumberLemmas.{digits_2_none, digits_2_half, digits_2_found}
use Rattle.c_print.proofs.prefix.digits_2_at.Goals as goal

pub returns-in_err-high : goal.returns-in_err-high
returns-in_err-high c = let none : BeginsNone digits_2 (Below 256) c.args.text.now = digits_2_none c.args.text.now c.in_err-high.ensures in search rules

pub returns-in_err-low : goal.returns-in_err-low
returns-in_err-low c =
    let none : BeginsNone digits_2 (Below 256) c.args.text.now = digits_2_half c.args.text.now c.in_ok-high.high c.in_ok-high.rest.now c.in_ok-high.ensures c.in_err-low.ensures in
    search rules

pub returns : goal.returns
returns c = digits_2_found c.args.text.now c.in_ok-high.high c.in_ok-low.low c.in_ok-high.rest.now c.in_ok-low.rest.now c.in_ok-high.ensures c.in_ok-low.ensures
