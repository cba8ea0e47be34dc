-- A limit that is sought among numbered tests.
use Rattle.std.proofs.Common.{◌≡◌, ◌≢◌, ℕ, zero, suc, ◌+◌, ◌<◌, ◌==◌, Bool, false, List, [], ◌∷◌, length, drop, refl, ap, ◌∙◌, ne_eqb, arith}
use Rattle.res_model.specs.Limits.{is_met}
use Rattle.clock_limits.specs.Numbered.{numbered}

past : (limit k j : ℕ) (met : List Bool) → k < length met → (j == limit) ≡ false → is_met limit (numbered j (drop k met)) ≡ is_met limit (numbered (j + 1) (drop (suc k) met))
past limit k j [] inside other = absurd (omega arith)
past limit zero j (test ∷ tests) inside other = rw other refl
past limit (suc k) j (test ∷ tests) inside other = past limit k j tests (omega arith) other

-- the search goes on past a test that has another number
pub sought_on : (limit k : ℕ) (met : List Bool) → k < length met → 3 + k ≢ limit → is_met limit (numbered 3 met) ≡ is_met limit (numbered (3 + k) (drop k met)) → is_met limit (numbered 3 met) ≡ is_met limit (numbered (3 + (k + 1)) (drop (k + 1) met))
sought_on limit k met inside other e =
    let next : 3 + k + 1 ≡ 3 + (k + 1) = omega arith in
    let more : suc k ≡ k + 1 = omega arith in
    e ∙ past limit k (3 + k) met inside (ne_eqb (3 + k) limit other)
    ∙ ap (λ (j : ℕ). is_met limit (numbered j (drop (suc k) met))) next
    ∙ ap (λ (j : ℕ). is_met limit (numbered (3 + (k + 1)) (drop j met))) more
