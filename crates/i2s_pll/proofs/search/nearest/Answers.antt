use Rattle.std.proofs.Common.{◌≡◌, ◌∙◌, ◌<◌, ◌⊎◌, inl, inr, subst, sym, arith}
use Rattle.res_base.specs.Fraction.{over, whole}
use Rattle.i2s_pll.specs.declared.choice.I2s.{I2s}
use Rattle.i2s_pll.specs.Choices.{HasDividers}
use Rattle.i2s_pll.proofs.LeadLemmas.{nearest_of}
use Rattle.i2s_pll.proofs.search.nearest.Goals as goal

either : (P : I2s → Type 0) (a b x : I2s) → (x ≡ a) ⊎ (x ≡ b) → P a → P b → P x
either P a b x h p q = elim h [ inl e ↦ subst P (sym e) p | inr e ↦ subst P (sym e) q ]

pub returns : goal.returns
returns c =
    let q = c.args.q.now in
    let input = over (whole q.input.hertz) q.input.m in
    let a = c.divided-first.result in
    let b = c.divided-second.result in
    let x = c.nearer.result in
    let low = c.divided-first.ensures in
    let high = c.divided-second.ensures in
    let one = c.nearer.ensures.one in
    let n_is : x.n ≡ c.args.n = either (λ (k : I2s). k.n ≡ c.args.n) a b x one low.n high.n in
    let r_is : x.r ≡ c.args.r = either (λ (k : I2s). k.r ≡ c.args.r) a b x one low.r high.r in
    let dividers : HasDividers x = either HasDividers a b x one low.dividers high.dividers in
    let some : 0 < input.den = let m = q.input.m_some in omega (arith, m) in
    let r_some : 0 < c.args.r = let r = c.requires.r.0 in omega (arith, r) in
    let rate_some : 0 < q.rate = let r = c.requires.rate.0 in omega (arith, r) in
    record {
      n_is = n_is;
      r_is = r_is;
      dividers = dividers;
      leads = nearest_of input q.rate some c.args.n c.args.r r_some rate_some c.crossing-below.result c.crossing-below.ensures.value
          a b x low.n low.r high.n high.r low.dividers high.dividers dividers (low.by ∙ c.clamped.ensures) (high.by ∙ c.clamped-2.ensures) c.nearer.ensures;
    }
