use Rattle.std.proofs.Common.{◌≡◌, ℕ, true, sym, subst, ◌∙◌}
use Rattle.std.specs.Prelude.{decimal}
use Rattle.std.specs.Str.{IsUtf8, bytes_eq}
use Rattle.std.proofs.lemmas.Fmt.{IsAscii-decimal, parse-decimal}
use Rattle.std.proofs.lemmas.Str.{IsUtf8-from_ascii}
use Rattle.std.proofs.lemmas.Slice.Eq.{bytes_eq-Decides}
use Rattle.res_base.proofs.decimal.parse_dec.Goals as goal

pub returns-in_default-clause-none : goal.returns-in_default-clause-none
returns-in_default-clause-none c n h e = c.in_default.ensures.cases.0 (subst IsUtf8 (sym e) (IsUtf8-from_ascii (decimal n) (IsAscii-decimal n h)))

pub returns-in_default-parse-clause-none : goal.returns-in_default-parse-clause-none
returns-in_default-parse-clause-none c n h e =
    let read = parse-decimal 64 n c.in-Ok.text.now c.parse.result h h (c.in-Ok.ensures.cases.0 ∙ e) c.parse.ensures.value.0 in
    cc (read, c.in_default-parse.is)

pub returns-else-eq-clause-none : goal.returns-else-eq-clause-none
returns-else-eq-clause-none c n h e =
    let read = parse-decimal 64 n c.in-Ok.text.now c.parse.result h h (c.in-Ok.ensures.cases.0 ∙ e) c.parse.ensures.value.0 in
    let same : c.in-Ok-parse.number ≡ n = cc (read, c.in-Ok-parse.is) in
    let text : c.format.result.now ≡ decimal n = subst (λ (m : ℕ). c.format.result.now ≡ decimal m) same c.format.ensures.text in
    let equal : bytes_eq c.format.result.now c.in-Ok.text.now ≡ true = (bytes_eq-Decides c.format.result.now c.in-Ok.text.now).1 (text ∙ sym (c.in-Ok.ensures.cases.0 ∙ e)) in
    cc (equal, c.eq.ensures, c.if-eq.false)
