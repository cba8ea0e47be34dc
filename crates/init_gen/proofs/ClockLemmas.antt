-- The numbers of the clock part: the fields of the words written, and which nodes fit.
use Rattle.std.proofs.Common.{◌≡◌, ℕ, ◌+◌, ◌-◌, ◌*◌, ◌/◌, ◌%◌, ◌^◌, ◌<◌, ◌≤◌, get_or, List, Option, Some, None, Bool, true, false, ◌&&◌, cond, not, eqb, ltb, leb, bit_and, refl, ◌∙◌, arith}
use Rattle.std.proofs.lemmas.Bool.Decides.{nat_tests}
use Rattle.std.proofs.lemmas.Nat.{and_mask, mul-le, pow_pos}
use Rattle.reg_map.specs.Fields.{field_of}
use Rattle.reg_machine.specs.Words.{is_whole}
use Rattle.reg_machine.specs.Rules.{sets}
use Rattle.reg_machine.specs.Tree.{m_of, n_of, hpre_value, ppre_value}
use Rattle.reg_machine.specs.Legal.{NodesFit}
use Rattle.res_base.specs.Fraction.{whole, over}
use Rattle.res_model.specs.Limits.{IsWithinMax}
use Rattle.res_model.specs.ClockValues.{hsi}
use Rattle.res_model.specs.declared.table.Over.{Over}
use Rattle.init_gen.specs.declared.setting.Codes.{Codes}
use Rattle.init_gen.specs.Writes.{pll_word, code_word, acr_word}
use Rattle.init_gen.specs.Codes.{IsSmall}
use Rattle.init_gen.proofs.Fitting.{Rises}
use Rattle.reg_map.proofs.BitLemmas.{at_below}

module _ (c : Codes) (f : IsSmall c) where
  pub m_is : m_of (pll_word c) ≡ c.m
  m_is = omega (arith, f.m)

  pub n_is : n_of (pll_word c) ≡ c.n
  n_is = omega (arith, f.m, f.n)

  pub pcode_is : field_of 16 2 (pll_word c) ≡ c.pcode
  pcode_is = omega (arith, f.m, f.n, f.pcode)

  pub psrc_is : pll_word c / 2 ^ 22 % 2 ≡ c.psrc
  psrc_is = omega (arith, f.m, f.n, f.pcode, f.psrc)

  pub q_is : field_of 24 4 (pll_word c) ≡ c.q
  q_is = omega (arith, f.m, f.n, f.pcode, f.psrc, f.q)

  pub hcode_is : (sw : ℕ) → sw < 4 → field_of 4 4 (code_word c + sw) ≡ c.hcode
  hcode_is sw l = omega (arith, f.hcode)

  pub code1_is : (sw : ℕ) → sw < 4 → field_of 10 3 (code_word c + sw) ≡ c.code1
  code1_is sw l = omega (arith, f.hcode, f.code1)

  pub code2_is : (sw : ℕ) → sw < 4 → field_of 13 3 (code_word c + sw) ≡ c.code2
  code2_is sw l = omega (arith, f.hcode, f.code1, f.code2)

  pub sw_is : (sw : ℕ) → sw < 4 → (code_word c + sw) % 4 ≡ sw
  sw_is sw l = omega arith

  pub whole_is : 2 ≤ c.m → 50 ≤ c.n → c.n ≤ 432 → 2 ≤ c.q → is_whole (pll_word c) ≡ true
  whole_is a b d e = whole_at (m_of (pll_word c)) (n_of (pll_word c)) (field_of 24 4 (pll_word c)) (omega (arith, m_is, a)) (omega (arith, n_is, b)) (omega (arith, n_is, d)) (omega (arith, q_is, e)) where
    whole_at : (m n q : ℕ) → 2 ≤ m → 50 ≤ n → n ≤ 432 → 2 ≤ q → (leb 2 m && (leb 50 n && (leb n 432 && leb 2 q))) ≡ true
    whole_at m n q x y z w = grind (arith, nat_tests)

pub hpre_pos : (code : ℕ) → 1 ≤ hpre_value code
hpre_pos code = one_of (ltb code 8) (ltb code 12) where
  one_of : (a b : Bool) → 1 ≤ cond a 1 (cond b (2 ^ (code - 7)) (2 ^ (code - 6)))
  one_of true b = omega arith
  one_of false true = pow_pos (code - 7)
  one_of false false = pow_pos (code - 6)

pub ppre_pos : (code : ℕ) → 1 ≤ ppre_value code
ppre_pos code = one_of (ltb code 4) where
  one_of : (a : Bool) → 1 ≤ cond a 1 (2 ^ (code - 3))
  one_of true = omega arith
  one_of false = pow_pos (code - 3)

-- HSI fits under any dividers, from any row that is not below the first
more : (x l a b : ℕ) → x ≤ l * a → a ≤ b → x ≤ l * b
more x l a b h k = omega (arith, h, mul-le l a l b (omega arith) k)

higher : (x l k b : ℕ) → x ≤ l * b → l ≤ k → x ≤ k * b
higher x l k b h j = omega (arith, h, mul-le l b k b j (omega arith))

more_within : (scale : Option ℕ) (h : ℕ) → 1 ≤ h → IsWithinMax (over (whole hsi) 1) scale → IsWithinMax (over (whole hsi) h) scale
more_within None h l w = w
more_within (Some most) h l w = more (hsi * 1) most (1 * 1) (1 * h) w (omega arith)

pub hsi_fits : (speeds : Over) (scale : Option ℕ) (rows : List ℕ) (lat h a b : ℕ) → NodesFit speeds scale rows 0 (whole hsi) 1 1 1 → Rises rows lat → 1 ≤ h → 1 ≤ a → 1 ≤ b → NodesFit speeds scale rows lat (whole hsi) h a b
hsi_fits speeds scale rows lat h a b f r lh la lb = record {
  sysclk_within = f.sysclk_within;
  scale_covers = more_within scale h lh f.scale_covers;
  row_is_there = r.there;
  row_covers = more (hsi * 1) (get_or rows lat 0) (1 * 1) (1 * h) (higher (hsi * 1) (get_or rows 0 0) (get_or rows lat 0) (1 * 1) f.row_covers r.above) (omega arith);
  pclk1_within = more (hsi * 1) speeds.pclk1 (1 * 1 * 1) (1 * h * a) f.pclk1_within (omega (arith, mul-le 1 1 h a lh la));
  pclk2_within = more (hsi * 1) speeds.pclk2 (1 * 1 * 1) (1 * h * b) f.pclk2_within (omega (arith, mul-le 1 1 h b lh lb));
}

-- the word of FLASH_ACR
pub acr_low : (b : Bool) (w : ℕ) → w < 8 → acr_word b w % 8 ≡ w
acr_low true w l = omega arith
acr_low false w l = omega arith

pub acr_taken : (b : Bool) (w : ℕ) → w < 8 → eqb (bit_and (bit_and (acr_word b w) 4294965496) 4294967295) 0 ≡ true
acr_taken true w l = at_below 8 w (λ x. eqb (bit_and (bit_and (acr_word true x) 4294965496) 4294967295) 0) refl l
acr_taken false w l = at_below 8 w (λ x. eqb (bit_and (bit_and (acr_word false x) 4294965496) 4294967295) 0) refl l

pub acr_prefetch : (b : Bool) (w : ℕ) → w < 8 → (sets 8 0 (acr_word b w) && not b) ≡ false
acr_prefetch true w l = at_end (sets 8 0 (acr_word true w)) where
  at_end : (x : Bool) → (x && false) ≡ false
  at_end true = refl
  at_end false = refl
acr_prefetch false w l = not_true {x = sets 8 0 (acr_word false w) && true} (at_below 8 w (λ x. not (sets 8 0 (acr_word false x) && true)) refl l) where
  not_true : {x : Bool} → not x ≡ true → x ≡ false
  not_true {x = true} h = cc
  not_true {x = false} h = refl

-- what the await of the latency reads
pub acr_reads : (b : Bool) (w lat : ℕ) → w < 8 → lat < 8 → bit_and (acr_word b w - acr_word b w % 8 + lat) 7 ≡ lat
acr_reads b w lat l m = and_mask (acr_word b w - acr_word b w % 8 + lat) 3 ∙ low b where
  low : (x : Bool) → (acr_word x w - acr_word x w % 8 + lat) % 2 ^ 3 ≡ lat
  low true = omega arith
  low false = omega arith
