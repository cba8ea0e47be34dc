-- What is printed of a choice.
use Rattle.std.specs.Prelude.{◌≡◌, ℕ, ◌+◌, ◌*◌, ◌/◌, ◌%◌, ◌^◌, List, [], ◌∷◌, ◌++◌, codes, decimal, map, nat_lt, if◌then◌else◌}
use Rattle.std.specs.List.{concat}
use Rattle.res_base.specs.Fraction.{Fraction, times}
use Rattle.i2s_pll.specs.declared.choice.I2s.{I2s}
use Rattle.i2s_pll.specs.declared.op.I2sOp.{I2sOp}
use Rattle.i2s_pll.specs.declared.op.I2sOp.TheVariants as op
use Rattle.i2s_pll.specs.Choices.{i2sclk_of, sample_rate}
use Rattle.i2s_pll.specs.Least.{error_of}
use Rattle.i2s_pll.specs.Run.{writes_of}

-- ---- a word in hexadecimal: 0 to 9, then A to F, the upper half before the lower
unfoldable pub digit : ℕ → ℕ
digit n = if nat_lt n 10 then 48 + n else 55 + n

unfoldable pub digits_2 : ℕ → List ℕ
digits_2 n = digit (n / 16) ∷ digit (n % 16) ∷ []

unfoldable pub digits_4 : ℕ → List ℕ
digits_4 n = digits_2 (n / 256) ++ digits_2 (n % 256)

unfoldable pub digits_8 : ℕ → List ℕ
digits_8 n = digits_4 (n / 65536) ++ digits_4 (n % 65536)

-- ---- lines
unfoldable pub pll_words : I2s → List ℕ
pll_words x = codes "i2s n " ++ decimal x.n ++ codes " r " ++ decimal x.r

unfoldable pub divider_words : I2s → List ℕ
divider_words x = codes " div " ++ decimal x.div ++ codes " odd " ++ decimal x.odd ++ 10 ∷ []

abbrev pub floor : Fraction → ℕ
floor x = x.num / x.den

-- in whole hertz
unfoldable pub i2sclk_line : Fraction → I2s → List ℕ
i2sclk_line input x = codes "I2SCLK " ++ decimal (floor (i2sclk_of input x.n x.r)) ++ 10 ∷ []

unfoldable pub rate_line : Fraction → I2s → List ℕ
rate_line input x = codes "rate " ++ decimal (floor (sample_rate input x)) ++ 10 ∷ []

-- in whole thousandths of a hertz
unfoldable pub error_line : Fraction → ℕ → I2s → List ℕ
error_line input rate x = codes "error " ++ decimal (floor (times (error_of input rate x) 1000)) ++ 10 ∷ []

-- SPI_I2SPR (RM0090): the master clock in bit 9, ODD in bit 8 and DIV below
abbrev pub prescaler_word : I2s → ℕ
prescaler_word x = 0x200 + x.odd * 0x100 + x.div

-- each field of a word of SPI_I2SPR by itself
pub record HoldsDivider (word : ℕ) (x : I2s) : Type 0 where
  pub div : word % 2 ^ 8 ≡ x.div
  pub odd : word / 2 ^ 8 % 2 ≡ x.odd
  pub master_clock : word / 2 ^ 9 ≡ 1

unfoldable pub prescaler_line : I2s → List ℕ
prescaler_line x = codes "I2SPR 0x" ++ digits_8 (prescaler_word x) ++ 10 ∷ []

-- ---- the C line of an op: RCC_PLLI2SCFGR is at 0x40023884 and RCC_CR at 0x40023800, with PLLI2SON in bit 26 and PLLI2SRDY in bit 27
unfoldable pub config_start : List ℕ
config_start = codes "    REG(0x40023884u) = 0x"

unfoldable pub config_end : List ℕ
config_end = codes "u;" ++ 10 ∷ []

unfoldable pub on_text : List ℕ
on_text = codes "    REG(0x40023800u) = (REG(0x40023800u) & ~0x00000000u) | 0x04000000u;" ++ 10 ∷ []

unfoldable pub await_start : List ℕ
await_start = codes "    for (polls = 0u; (REG(0x40023800u) & 0x08000000u) != 0x08000000u; ) { if (++polls == "

unfoldable pub await_end : List ℕ
await_end = codes "u) return PLLI2S_TIMEOUT; }" ++ 10 ∷ []

abbrev pub op_line : I2sOp → List ℕ
op_line (op.Config word) = config_start ++ digits_8 word ++ config_end
op_line op.On = on_text
op_line (op.Await polls) = await_start ++ decimal polls ++ await_end

-- a choice for a sample rate
unfoldable pub i2s_text : Fraction → ℕ → I2s → List ℕ
i2s_text input rate x =
    pll_words x ++ divider_words x ++ i2sclk_line input x ++ rate_line input x ++ error_line input rate x ++ prescaler_line x ++ concat (map op_line (writes_of x))
