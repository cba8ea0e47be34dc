-- What the fields of RCC, FLASH and PWR take for a choice of clocks (RM0090).
use Rattle.std.specs.Prelude.{ℕ, ◌-◌, ◌*◌, ◌/◌, ◌^◌, ◌<◌, Bool, if◌then◌else◌, ◌==◌}
use Rattle.res_model.specs.Clock.{hse_used, pll_used}
use Rattle.res_model.specs.ClockValues.{has_over, scale_of_step, source_number}
use Rattle.reg_machine.specs.Power.{vos_mask}
use Rattle.res_model.specs.declared.clock.ClockChoice.{ClockChoice}
use Rattle.res_model.specs.declared.clock.Facts.{Facts}
use Rattle.res_model.specs.declared.clock.Src.{Src}
use Rattle.res_model.specs.declared.clock.Src.TheVariants.{Hsi, Hse, Pll}
use Rattle.init_gen.specs.declared.setting.Codes.{Codes}
use Rattle.init_gen.specs.declared.setting.Oscillator.{Oscillator}
use Rattle.init_gen.specs.declared.setting.Oscillator.TheVariants as oscillator

-- 2, 4, 6 and 8 are 0 to 3
abbrev pub p_code : ℕ → ℕ
p_code p = p / 2 - 1

-- 1 is 0, and 2, 4, 8, 16, 64, 128, 256 and 512 are 8 to 15
abbrev pub hpre_code : ℕ → ℕ
hpre_code d =
    if d == 1 then 0 else (if d == 2 then 8 else (if d == 4 then 9 else (if d == 8 then 10 else (if d == 16 then 11
    else (if d == 64 then 12 else (if d == 128 then 13 else (if d == 256 then 14 else 15)))))))

-- 1 is 0, and 2, 4, 8 and 16 are 4 to 7
abbrev pub ppre_code : ℕ → ℕ
ppre_code d = if d == 1 then 0 else (if d == 2 then 4 else (if d == 4 then 5 else (if d == 8 then 6 else 7)))

abbrev pub oscillator_of : Bool → Bool → Oscillator
oscillator_of used bypass = if used then (if bypass then oscillator.Bypass else oscillator.Crystal) else oscillator.Off

-- the value of VOS for a scale: scale 1 has the greatest of one bit, or of two, and each next scale the value below
abbrev pub vos_code : ℕ → ℕ → ℕ
vos_code version scale = if version == 1 then 2 - scale else 4 - scale

abbrev pub vos_word : ℕ → ℕ → ℕ
vos_word version scale = vos_code version scale * 2 ^ 14

-- of a part by the version of its table
abbrev pub codes_of : ℕ → Facts → ClockChoice → ℕ → Codes
codes_of version f c wait = record {
  step = c.vos;
  scale = scale_of_step c.vos;
  vos_clear = vos_mask version;
  vos_set = vos_word version (scale_of_step c.vos);
  over = has_over c.vos;
  oscillator = oscillator_of (hse_used f c) f.bypass;
  pll = pll_used f c;
  psrc = source_number c.psrc;
  src = source_number c.src;
  m = c.m;
  n = c.n;
  pcode = p_code c.p;
  q = c.q;
  hcode = hpre_code c.hpre;
  code1 = ppre_code c.ppre1;
  code2 = ppre_code c.ppre2;
  wait = wait;
}

-- codes that their fields hold
pub record IsSmall (c : Codes) : Type 0 where
  pub vos_clear : c.vos_clear < 2 ^ 16
  pub vos_set : c.vos_set < 2 ^ 16
  pub psrc : c.psrc < 2
  pub src : c.src < 3
  pub m : c.m < 64
  pub n : c.n < 512
  pub pcode : c.pcode < 4
  pub q : c.q < 16
  pub hcode : c.hcode < 16
  pub code1 : c.code1 < 8
  pub code2 : c.code2 < 8
  pub wait : c.wait < 8
