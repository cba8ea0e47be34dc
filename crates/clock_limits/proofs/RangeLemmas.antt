-- Ranges have the nodes of each choice in the box.
use Rattle.std.proofs.Common.{◌≡◌, ℕ, ◌+◌, ◌*◌, ◌<◌, Bool, true, false, cond, nat_eq, Option, Some, None, List, [], ◌∷◌, ⊎_elim, refl, subst, arith}
use Rattle.std.proofs.lemmas.Nat.{mul-le}
use Rattle.res_base.specs.Fraction.{Fraction, IsAtMost, at_most, whole, times, over}
use Rattle.res_base.specs.Lists.{Member}
use Rattle.res_model.specs.ClockValues.{hsi, source_number}
use Rattle.res_model.specs.declared.clock.ClockChoice.{ClockChoice}
use Rattle.res_model.specs.declared.clock.Facts.{Facts}
use Rattle.res_model.specs.declared.clock.Range.{Range}
use Rattle.res_model.specs.declared.clock.Src.{Src}
use Rattle.res_model.specs.declared.clock.Src.TheVariants.{Hsi, Hse, Pll}
use Rattle.res_model.specs.Clock.{output, pll_input, vco_in_of, vco_of, system_output_of, clk48_of, sysclk_of, hclk_of, pclk1_of, pclk2_of}
use Rattle.res_model.specs.Limits.{is_as_wished, is_equal}
use Rattle.clock_limits.specs.Ranges.{Allowed, IsAllowed, IsWithin, exactly, joined, divided, multiplied, output_range, with_outputs, outputs, least_of, greatest_of, has, narrowed, input_range, vco_in_range, vco_range, system_output_range, clk48_range, sysclk_range, hclk_reach, hclk_range, pclk1_range, pclk2_range}
use Rattle.clock_limits.specs.Fair.{IsFair, IsSpread}
use Rattle.clock_limits.proofs.FractionLemmas.{fact_of, other_way, same_is_at_most, times_mono, over_mono, at_most_trans, and_left, and_right}
use Rattle.clock_limits.proofs.SpreadLemmas.{least_each, greatest_each}

-- both ends are fractions
pub record IsProper (r : Range) : Type 0 where
  pub least : 0 < r.least.den
  pub most : 0 < r.most.den

pub exactly_within : (x : Fraction) → IsWithin (exactly x) x
exactly_within x = record { above = same_is_at_most x; below = same_is_at_most x }

-- ---- joined ranges
lesser_left : (a b x : Fraction) (t : Bool) → at_most a b ≡ t → 0 < a.den → IsAtMost a x → IsAtMost (cond t a b) x
lesser_left a b x true e p h = h
lesser_left a b x false e p h = at_most_trans b a x p (other_way a b e) h

lesser_right : (a b x : Fraction) (t : Bool) → at_most a b ≡ t → 0 < b.den → IsAtMost b x → IsAtMost (cond t a b) x
lesser_right a b x true e p h = at_most_trans a b x p (fact_of a b e) h
lesser_right a b x false e p h = h

greater_left : (a b x : Fraction) (t : Bool) → at_most a b ≡ t → 0 < a.den → IsAtMost x a → IsAtMost x (cond t b a)
greater_left a b x true e p h = at_most_trans x a b p h (fact_of a b e)
greater_left a b x false e p h = h

greater_right : (a b x : Fraction) (t : Bool) → at_most a b ≡ t → 0 < b.den → IsAtMost x b → IsAtMost x (cond t b a)
greater_right a b x true e p h = h
greater_right a b x false e p h = at_most_trans x b a p h (other_way a b e)

choose_den : (t : Bool) (a b : Fraction) → 0 < a.den → 0 < b.den → 0 < (cond t a b).den
choose_den true a b p q = p
choose_den false a b p q = q

joined_proper : (r s : Range) → IsProper r → IsProper s → IsProper (joined r s)
joined_proper r s p q = record {
  least = choose_den (at_most r.least s.least) r.least s.least p.least q.least;
  most = choose_den (at_most r.most s.most) s.most r.most q.most p.most;
}

joined_left : (r s : Range) (x : Fraction) → IsProper r → IsWithin r x → IsWithin (joined r s) x
joined_left r s x p w = record {
  above = lesser_left r.least s.least x (at_most r.least s.least) refl p.least w.above;
  below = greater_left r.most s.most x (at_most r.most s.most) refl p.most w.below;
}

joined_right : (r s : Range) (x : Fraction) → IsProper s → IsWithin s x → IsWithin (joined r s) x
joined_right r s x p w = record {
  above = lesser_right r.least s.least x (at_most r.least s.least) refl p.least w.above;
  below = greater_right r.most s.most x (at_most r.most s.most) refl p.most w.below;
}

choose_proper : (t : Bool) (r s : Range) → IsProper r → IsProper s → IsProper (cond t r s)
choose_proper true r s p q = p
choose_proper false r s p q = q

whole_proper : (n : ℕ) → IsProper (exactly (whole n))
whole_proper n = record { least = omega arith; most = omega arith }

output_proper : (hse : ℕ) (pll : Range) (s : ℕ) → IsProper pll → IsProper (output_range hse pll s)
output_proper hse pll s p =
    choose_proper (nat_eq s 0) (exactly (whole hsi)) (cond (nat_eq s 1) (exactly (whole hse)) pll) (whole_proper hsi)
    (choose_proper (nat_eq s 1) (exactly (whole hse)) pll (whole_proper hse) p)

with_proper : (hse : ℕ) (pll r : Range) (ss : List ℕ) → IsProper pll → IsProper r → IsProper (with_outputs hse pll r ss)
with_proper hse pll r [] p q = q
with_proper hse pll r (s ∷ ss) p q =
    with_proper hse pll (joined r (output_range hse pll s)) ss p (joined_proper r (output_range hse pll s) q (output_proper hse pll s p))

outputs_proper : (hse : ℕ) (pll : Range) (ss : List ℕ) → IsProper pll → IsProper (outputs hse pll ss)
outputs_proper hse pll [] p = p
outputs_proper hse pll (s ∷ ss) p = with_proper hse pll (output_range hse pll s) ss p (output_proper hse pll s p)

with_within : (hse : ℕ) (pll r : Range) (ss : List ℕ) (x : Fraction) → IsProper pll → IsProper r → IsWithin r x → IsWithin (with_outputs hse pll r ss) x
with_within hse pll r [] x p q w = w
with_within hse pll r (s ∷ ss) x p q w =
    with_within hse pll (joined r (output_range hse pll s)) ss x p
    (joined_proper r (output_range hse pll s) q (output_proper hse pll s p))
    (joined_left r (output_range hse pll s) x q w)

with_member : (hse : ℕ) (pll r : Range) (ss : List ℕ) (s : ℕ) (x : Fraction) → IsProper pll → IsProper r → Member s ss → IsWithin (output_range hse pll s) x → IsWithin (with_outputs hse pll r ss) x
with_member hse pll r [] s x p q m w = absurd m
with_member hse pll r (u ∷ us) s x p q m w =
    let proper = joined_proper r (output_range hse pll u) q (output_proper hse pll u p) in
    ⊎_elim
    (λ e. with_within hse pll (joined r (output_range hse pll u)) us x p proper
    (joined_right r (output_range hse pll u) x (output_proper hse pll u p) (subst (λ v. IsWithin (output_range hse pll v) x) e w)))
    (λ k. with_member hse pll (joined r (output_range hse pll u)) us s x p proper k w)
    m

outputs_within : (hse : ℕ) (pll : Range) (ss : List ℕ) (s : ℕ) (x : Fraction) → IsProper pll → Member s ss → IsWithin (output_range hse pll s) x → IsWithin (outputs hse pll ss) x
outputs_within hse pll [] s x p m w = absurd m
outputs_within hse pll (u ∷ us) s x p m w =
    ⊎_elim
    (λ e. with_within hse pll (output_range hse pll u) us x p (output_proper hse pll u p) (subst (λ v. IsWithin (output_range hse pll v) x) e w))
    (λ k. with_member hse pll (output_range hse pll u) us s x p (output_proper hse pll u p) k w)
    m

output_within : (hse : ℕ) (pll : Range) (x : Fraction) (s : Src) → IsWithin pll x → IsWithin (output_range hse pll (source_number s)) (output hse x s)
output_within hse pll x Hsi w = exactly_within (whole hsi)
output_within hse pll x Hse w = exactly_within (whole hse)
output_within hse pll x Pll w = w

-- ---- divided and multiplied ranges
product_some : (a b : ℕ) → 0 < a → 0 < b → 0 < a * b
product_some a b p q = omega (arith, mul-le 1 1 a b p q)

pub divided_proper : (low high : ℕ) (r : Range) (ns : List ℕ) → IsProper r → IsSpread (low + 1) high ns → IsProper (divided r ns)
divided_proper low high r ns p s = record {
  least = product_some r.least.den (greatest_of ns) p.least (omega (arith, s.greatest.0));
  most = product_some r.most.den (least_of ns) p.most (omega (arith, s.least.0));
}

multiplied_proper : (r : Range) (ns : List ℕ) → IsProper r → IsProper (multiplied r ns)
multiplied_proper r ns p = record { least = p.least; most = p.most }

divided_within : (r : Range) (ns : List ℕ) (x : Fraction) (n : ℕ) → IsWithin r x → Member n ns → IsWithin (divided r ns) (over x n)
divided_within r ns x n w m = record {
  above = over_mono r.least x n (greatest_of ns) w.above (greatest_each ns n m);
  below = over_mono x r.most (least_of ns) n w.below (least_each ns n m);
}

multiplied_within : (r : Range) (ns : List ℕ) (x : Fraction) (n : ℕ) → IsWithin r x → Member n ns → IsWithin (multiplied r ns) (times x n)
multiplied_within r ns x n w m = record {
  above = times_mono r.least x (least_of ns) n w.above (least_each ns n m);
  below = times_mono x r.most n (greatest_of ns) w.below (greatest_each ns n m);
}

-- ---- the nodes
input_proper : (f : Facts) (a : Allowed) → IsProper (input_range f a)
input_proper f a = outputs_proper f.hse_hz (exactly (whole hsi)) a.psrc (whole_proper hsi)

system_proper : (f : Facts) (a : Allowed) → IsFair a → IsProper (system_output_range f a)
system_proper f a fair =
    divided_proper 1 8 (vco_range f a) a.p
    (multiplied_proper (vco_in_range f a) a.n (divided_proper 1 63 (input_range f a) a.m (input_proper f a) fair.m))
    fair.p

pub vco_in_within : (f : Facts) (a : Allowed) (c : ClockChoice) → IsAllowed c a → IsWithin (vco_in_range f a) (vco_in_of f c)
vco_in_within f a c is =
    divided_within (input_range f a) a.m (pll_input f c) c.m
    (outputs_within f.hse_hz (exactly (whole hsi)) a.psrc (source_number c.psrc) (pll_input f c) (whole_proper hsi) is.psrc
    (output_within f.hse_hz (exactly (whole hsi)) (whole hsi) c.psrc (exactly_within (whole hsi))))
    is.m

pub vco_within : (f : Facts) (a : Allowed) (c : ClockChoice) → IsAllowed c a → IsWithin (vco_range f a) (vco_of f c)
vco_within f a c is = multiplied_within (vco_in_range f a) a.n (vco_in_of f c) c.n (vco_in_within f a c is) is.n

pub clk48_within : (f : Facts) (a : Allowed) (c : ClockChoice) → IsAllowed c a → IsWithin (clk48_range f a) (clk48_of f c)
clk48_within f a c is = divided_within (vco_range f a) a.q (vco_of f c) c.q (vco_within f a c is) is.q

pub sysclk_within : (f : Facts) (a : Allowed) (c : ClockChoice) → IsFair a → IsAllowed c a → IsWithin (sysclk_range f a) (sysclk_of f c)
sysclk_within f a c fair is =
    outputs_within f.hse_hz (system_output_range f a) a.src (source_number c.src) (sysclk_of f c) (system_proper f a fair) is.src
    (output_within f.hse_hz (system_output_range f a) (system_output_of f c) c.src
    (divided_within (vco_range f a) a.p (vco_of f c) c.p (vco_within f a c is) is.p))

pub reach_within : (f : Facts) (a : Allowed) (c : ClockChoice) → IsFair a → IsAllowed c a → IsWithin (hclk_reach f a) (hclk_of f c)
reach_within f a c fair is = divided_within (sysclk_range f a) a.hpre (sysclk_of f c) c.hpre (sysclk_within f a c fair is) is.hpre

narrowed_in : (wish : ℕ) (r : Range) (x : Fraction) (t : Bool) → IsWithin r x → is_equal x (whole wish) ≡ true → IsWithin (cond t (exactly (whole wish)) r) x
narrowed_in wish r x true w e = record {
  above = fact_of (whole wish) x (and_right (at_most x (whole wish)) (at_most (whole wish) x) e);
  below = fact_of x (whole wish) (and_left (at_most x (whole wish)) (at_most (whole wish) x) e);
}
narrowed_in wish r x false w e = w

narrowed_within : (wish : Option ℕ) (r : Range) (x : Fraction) → IsWithin r x → is_as_wished wish x ≡ true → IsWithin (narrowed wish r) x
narrowed_within None r x w e = w
narrowed_within (Some wish) r x w e = narrowed_in wish r x (has r (whole wish)) w e

-- a choice that is as wished is within the range that the wish narrows
pub hclk_within : (f : Facts) (a : Allowed) (c : ClockChoice) → IsFair a → IsAllowed c a → is_as_wished f.hclk (hclk_of f c) ≡ true → IsWithin (hclk_range f a) (hclk_of f c)
hclk_within f a c fair is wish = narrowed_within f.hclk (hclk_reach f a) (hclk_of f c) (reach_within f a c fair is) wish

pub pclk1_within : (f : Facts) (a : Allowed) (c : ClockChoice) → IsFair a → IsAllowed c a → is_as_wished f.hclk (hclk_of f c) ≡ true → IsWithin (pclk1_range f a) (pclk1_of f c)
pclk1_within f a c fair is wish = divided_within (hclk_range f a) a.ppre1 (hclk_of f c) c.ppre1 (hclk_within f a c fair is wish) is.ppre1

pub pclk2_within : (f : Facts) (a : Allowed) (c : ClockChoice) → IsFair a → IsAllowed c a → is_as_wished f.hclk (hclk_of f c) ≡ true → IsWithin (pclk2_range f a) (pclk2_of f c)
pclk2_within f a c fair is wish = divided_within (hclk_range f a) a.ppre2 (hclk_of f c) c.ppre2 (hclk_within f a c fair is wish) is.ppre2

-- ---- the nodes of an allowed choice are fractions
value_some : (low high : ℕ) (ns : List ℕ) (n : ℕ) → IsSpread (low + 1) high ns → Member n ns → 0 < n
value_some low high ns n s m = omega (arith, s.least.0, least_each ns n m)

pub record ArePositive (f : Facts) (c : ClockChoice) : Type 0 where
  pub vco_in : 0 < (vco_in_of f c).den
  pub vco : 0 < (vco_of f c).den
  pub clk48 : 0 < (clk48_of f c).den
  pub sysclk : 0 < (sysclk_of f c).den
  pub hclk : 0 < (hclk_of f c).den
  pub pclk1 : 0 < (pclk1_of f c).den
  pub pclk2 : 0 < (pclk2_of f c).den

output_some : (hse : ℕ) (x : Fraction) (s : Src) → 0 < x.den → 0 < (output hse x s).den
output_some hse x Hsi p = omega arith
output_some hse x Hse p = omega arith
output_some hse x Pll p = p

pub nodes_positive : (f : Facts) (a : Allowed) (c : ClockChoice) → IsFair a → IsAllowed c a → ArePositive f c
nodes_positive f a c fair is =
    let m = value_some 1 63 a.m c.m fair.m is.m in
    let p = value_some 1 8 a.p c.p fair.p is.p in
    let q = value_some 1 15 a.q c.q fair.q is.q in
    let hpre = value_some 0 512 a.hpre c.hpre fair.hpre is.hpre in
    let ppre1 = value_some 0 16 a.ppre1 c.ppre1 fair.ppre1 is.ppre1 in
    let ppre2 = value_some 0 16 a.ppre2 c.ppre2 fair.ppre2 is.ppre2 in
    let input = output_some f.hse_hz (whole hsi) c.psrc (omega arith) in
    let vco_in = product_some (pll_input f c).den c.m input m in
    let sysclk = output_some f.hse_hz (system_output_of f c) c.src (product_some (vco_of f c).den c.p vco_in p) in
    let hclk = product_some (sysclk_of f c).den c.hpre sysclk hpre in
    record {
      vco_in = vco_in;
      vco = vco_in;
      clk48 = product_some (vco_of f c).den c.q vco_in q;
      sysclk = sysclk;
      hclk = hclk;
      pclk1 = product_some (hclk_of f c).den c.ppre1 hclk ppre1;
      pclk2 = product_some (hclk_of f c).den c.ppre2 hclk ppre2;
    }
