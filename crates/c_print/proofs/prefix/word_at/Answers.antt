use Rattle.std.proofs.Common.{rules, ◌^◌}
use Rattle.c_print.specs.Text.{hex}
use Rattle.c_print.specs.Prefixes.{BeginsNone, Below}
use Rattle.c_print.proofs.NumberLemmas.{hex_none, hex_no_digits, hex_no_suffix, hex_found}
use Rattle.c_print.proofs.prefix.word_at.Goals as goal

pub returns-in_err-rest : goal.returns-in_err-rest
returns-in_err-rest c = let none : BeginsNone hex (Below (2 ^ 32)) c.args.text.now = hex_none c.args.text.now c.in_err-rest.ensures in search rules

pub returns-in_err-n : goal.returns-in_err-n
returns-in_err-n c =
    let none : BeginsNone hex (Below (2 ^ 32)) c.args.text.now = hex_no_digits c.args.text.now c.in_ok-rest.rest.now c.in_ok-rest.ensures c.in_err-n.ensures in search rules

pub returns-in_err-rest-2 : goal.returns-in_err-rest-2
returns-in_err-rest-2 c =
    let none : BeginsNone hex (Below (2 ^ 32)) c.args.text.now =
    hex_no_suffix c.args.text.now c.in_ok-rest.rest.now c.in_ok-rest.ensures c.in_ok-n.n c.in_ok-n.rest.now c.in_ok-n.ensures c.in_err-rest-2.ensures in
    search rules

pub returns : goal.returns
returns c = hex_found c.args.text.now c.in_ok-rest.rest.now c.in_ok-rest.ensures c.in_ok-n.n c.in_ok-n.rest.now c.in_ok-n.ensures c.in_ok-rest-2.rest.now c.in_ok-rest-2.ensures
