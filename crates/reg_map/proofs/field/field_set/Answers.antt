use Rattle.std.proofs.Common.{◌+◌, ◌*◌, ◌%◌, ◌^◌, ◌≡◌, ◌∙◌, ap, arith}
use Rattle.std.proofs.lemmas.Nat.{one_shl}
use Rattle.reg_map.proofs.FieldLemmas.{with_fits}
use Rattle.reg_map.proofs.field.field_set.Goals as goal

pub overflow_cast-result-2 : goal.overflow_cast-result-2
overflow_cast-result-2 c =
    let end : 1 * 2 ^ (c.from-low.result + c.from.result) % 2 ^ 64 ≡ 2 ^ (c.args.f.low + c.args.f.width) =
    one_shl (c.from-low.result + c.from.result) 64 (omega arith) ∙ ap (λ n. 2 ^ n) (omega arith) in
    let low : 1 * 2 ^ c.from-low.result % 2 ^ 64 ≡ 2 ^ c.args.f.low = one_shl c.from-low.result 64 (omega arith) ∙ ap (λ n. 2 ^ n) (omega arith) in
    let word : c.from-word.result ≡ c.args.word = c.from-word.ensures in
    let value : c.from-2.result ≡ c.args.value = c.from-2.ensures in
    let fits = with_fits c.args.word c.args.f.low c.args.f.width c.args.value (omega arith) c.requires.field.within c.requires.fits in
    rw (end, low, word, value) (omega (arith, fits))
