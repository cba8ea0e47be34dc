-- A field fits its word, and a word with a new value in a field fits 32 bits.
use Rattle.std.proofs.Common.{◌≡◌, ℕ, ◌+◌, ◌-◌, ◌*◌, ◌/◌, ◌%◌, ◌^◌, ◌<◌, ◌≤◌, sym, ap, subst, ◌∙◌, arith}
use Rattle.std.proofs.lemmas.Nat.{pow-add, pow_pos, mul-le}
use Rattle.std.proofs.Math.Pow.{shr_lt}

pub field_fits : (word low width : ℕ) → word < 2 ^ 32 → word / 2 ^ low % 2 ^ width < 2 ^ 32
field_fits word low width l = grind (arith, pow_pos)

-- what stands above is a multiple, and leaves room for one more
top_fits : (word top left : ℕ) → left + top ≡ 32 → word < 2 ^ 32 → word / 2 ^ top * 2 ^ top + 2 ^ top ≤ 2 ^ 32
top_fits word top left e l =
    let q : word / 2 ^ top < 2 ^ left = shr_lt left top (subst (λ n. word < 2 ^ n) (sym e) l) in
    let most = mul-le (word / 2 ^ top + 1) (2 ^ top) (2 ^ left) (2 ^ top) (omega arith) (omega arith) in
    let whole : 2 ^ left * 2 ^ top ≡ 2 ^ 32 = sym (pow-add 2 left top) ∙ ap (λ n. 2 ^ n) e in
    omega (arith, most, whole)

pub with_fits : (word low width value : ℕ) → word < 2 ^ 32 → low + width ≤ 32 → value < 2 ^ width → word / 2 ^ (low + width) * 2 ^ (low + width) + value * 2 ^ low + word % 2 ^ low < 2 ^ 32
with_fits word low width value l within fits =
    let top = top_fits word (low + width) (32 - (low + width)) (omega arith) l in
    let most = mul-le (value + 1) (2 ^ low) (2 ^ width) (2 ^ low) (omega arith) (omega arith) in
    let whole : 2 ^ width * 2 ^ low ≡ 2 ^ (low + width) = sym (pow-add 2 width low) ∙ ap (λ n. 2 ^ n) (omega arith) in
    omega (arith, top, most, whole, pow_pos low)
