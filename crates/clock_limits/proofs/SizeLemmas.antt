-- The sizes of ranges.
use Rattle.std.proofs.Common.{◌≡◌, ℕ, ◌*◌, ◌^◌, ◌<◌, ◌≤◌, Bool, true, false, cond, nat_eq, List, [], ◌∷◌, sym, subst, arith}
use Rattle.res_base.specs.Fraction.{Fraction, at_most, whole}
use Rattle.res_model.specs.declared.clock.Range.{Range}
use Rattle.clock_limits.specs.Ranges.{exactly, joined, output_range, with_outputs, outputs}
use Rattle.clock_limits.specs.Fair.{HasSize}

record IsPart (num den : ℕ) (x : Fraction) : Type 0 where
  pub num_most : x.num ≤ num
  pub den_some : 0 < x.den
  pub den_most : x.den ≤ den

parts : (num den : ℕ) (x y : Fraction) → IsPart num den x → IsPart num den y → HasSize num den (record { least = x; most = y })
parts num den x y p q = record {
  least_num = p.num_most;
  least_some = p.den_some;
  least_den = p.den_most;
  most_num = q.num_most;
  most_some = q.den_some;
  most_den = q.den_most;
}

least_part : (num den : ℕ) (r : Range) → HasSize num den r → IsPart num den r.least
least_part num den r h = record { num_most = h.least_num; den_some = h.least_some; den_most = h.least_den }

most_part : (num den : ℕ) (r : Range) → HasSize num den r → IsPart num den r.most
most_part num den r h = record { num_most = h.most_num; den_some = h.most_some; den_most = h.most_den }

choose : (num den : ℕ) (b : Bool) (x y : Fraction) → IsPart num den x → IsPart num den y → IsPart num den (cond b x y)
choose num den true x y p q = p
choose num den false x y p q = q

joined_size : (num den : ℕ) (r s : Range) → HasSize num den r → HasSize num den s → HasSize num den (joined r s)
joined_size num den r s h k =
    parts num den (joined r s).least (joined r s).most
    (choose num den (at_most r.least s.least) r.least s.least (least_part num den r h) (least_part num den s k))
    (choose num den (at_most r.most s.most) s.most r.most (most_part num den s k) (most_part num den r h))

choose_range : (num den : ℕ) (b : Bool) (r s : Range) → HasSize num den r → HasSize num den s → HasSize num den (cond b r s)
choose_range num den true r s h k = h
choose_range num den false r s h k = k

whole_size : (num den n : ℕ) → n ≤ num → 1 ≤ den → HasSize num den (exactly (whole n))
whole_size num den n h k = record {
  least_num = h;
  least_some = omega arith;
  least_den = k;
  most_num = h;
  most_some = omega arith;
  most_den = k;
}

output_size : (num den hse : ℕ) (pll : Range) (s : ℕ) → hse ≤ num → 16000000 ≤ num → 1 ≤ den → HasSize num den pll → HasSize num den (output_range hse pll s)
output_size num den hse pll s h k d p =
    choose_range num den (nat_eq s 0) (exactly (whole 16000000)) (cond (nat_eq s 1) (exactly (whole hse)) pll)
    (whole_size num den 16000000 k d)
    (choose_range num den (nat_eq s 1) (exactly (whole hse)) pll (whole_size num den hse h d) p)

with_size : (num den hse : ℕ) (pll r : Range) (ss : List ℕ) → hse ≤ num → 16000000 ≤ num → 1 ≤ den → HasSize num den pll → HasSize num den r → HasSize num den (with_outputs hse pll r ss)
with_size num den hse pll r [] h k d p q = q
with_size num den hse pll r (s ∷ ss) h k d p q =
    with_size num den hse pll (joined r (output_range hse pll s)) ss h k d p
    (joined_size num den r (output_range hse pll s) q (output_size num den hse pll s h k d p))

outputs_size : (num den hse : ℕ) (pll : Range) (ss : List ℕ) → hse ≤ num → 16000000 ≤ num → 1 ≤ den → HasSize num den pll → HasSize num den (outputs hse pll ss)
outputs_size num den hse pll [] h k d p = p
outputs_size num den hse pll (s ∷ ss) h k d p = with_size num den hse pll (output_range hse pll s) ss h k d p (output_size num den hse pll s h k d p)

pub input_size : (hse : ℕ) (ss : List ℕ) (r : Range) → hse < 2 ^ 32 → r ≡ outputs hse (exactly (whole 16000000)) ss → HasSize (2 ^ 32) 1 r
input_size hse ss r h e =
    subst (λ (x : Range). HasSize (2 ^ 32) 1 x) (sym e)
    (outputs_size (2 ^ 32) 1 hse (exactly (whole 16000000)) ss (omega arith) (omega arith) (omega arith) (whole_size (2 ^ 32) 1 16000000 (omega arith) (omega arith)))

pub sysclk_size : (hse : ℕ) (pll : Range) (ss : List ℕ) (r : Range) → hse < 2 ^ 32 → HasSize (432 * 2 ^ 32) 504 pll → r ≡ outputs hse pll ss → HasSize (432 * 2 ^ 32) 504 r
sysclk_size hse pll ss r h p e =
    subst (λ (x : Range). HasSize (432 * 2 ^ 32) 504 x) (sym e)
    (outputs_size (432 * 2 ^ 32) 504 hse pll ss (omega arith) (omega arith) (omega arith) p)
