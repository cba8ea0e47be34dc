-- The clock tree that the registers say (RM0090, RCC).
use Rattle.std.specs.Prelude.{ℕ, ◌+◌, ◌*◌, ◌-◌, ◌^◌, Bool, if◌then◌else◌, ◌==◌, nat_lt}
use Rattle.reg_map.specs.Fields.{bit_of, field_of}
use Rattle.res_model.specs.Clock.{vco_in_of, vco_of, clk48_of, sysclk_of, hclk_of, pclk1_of, pclk2_of, timer, where_used}
use Rattle.res_model.specs.declared.clock.ClockChoice.{ClockChoice}
use Rattle.res_model.specs.declared.clock.Facts.{Facts}
use Rattle.res_model.specs.declared.clock.Nodes.{Nodes}
use Rattle.res_model.specs.declared.clock.Src.{Src}
use Rattle.res_model.specs.declared.clock.Src.TheVariants.{Hsi, Hse, Pll}
use Rattle.reg_machine.specs.Power.{step_of_power}
use Rattle.reg_machine.specs.Words.{pll_source}
use Rattle.reg_machine.specs.declared.state.State.{State}
use Rattle.res_model.specs.ClockValues.{source_of}

-- ---- the fields of RCC_PLLCFGR and RCC_CFGR

abbrev pub m_of : ℕ → ℕ
m_of word = field_of 0 6 word

abbrev pub n_of : ℕ → ℕ
n_of word = field_of 6 9 word

-- P's 0 to 3 are 2, 4, 6 and 8
abbrev pub p_of : ℕ → ℕ
p_of word = 2 * (field_of 16 2 word + 1)

abbrev pub q_of : ℕ → ℕ
q_of word = field_of 24 4 word

-- HPRE below 8 is 1, and 8 to 15 are 2, 4, 8, 16, 64, 128, 256 and 512
abbrev pub hpre_value : ℕ → ℕ
hpre_value code = if nat_lt code 8 then 1 else (if nat_lt code 12 then 2 ^ (code - 7) else 2 ^ (code - 6))

-- PPRE below 4 is 1, and 4 to 7 are 2, 4, 8 and 16
abbrev pub ppre_value : ℕ → ℕ
ppre_value code = if nat_lt code 4 then 1 else 2 ^ (code - 3)

abbrev pub hpre_of : ℕ → ℕ
hpre_of word = hpre_value (field_of 4 4 word)

abbrev pub ppre1_of : ℕ → ℕ
ppre1_of word = ppre_value (field_of 10 3 word)

abbrev pub ppre2_of : ℕ → ℕ
ppre2_of word = ppre_value (field_of 13 3 word)

-- ---- the choice that the fields say, where SYSCLK comes from a source

abbrev pub choice_of : State → ℕ → ClockChoice
choice_of s source = record {
  src = source_of source;
  psrc = source_of (pll_source s.pllcfgr);
  hpre = hpre_of s.cfgr;
  p = p_of s.pllcfgr;
  m = m_of s.pllcfgr;
  n = n_of s.pllcfgr;
  q = q_of s.pllcfgr;
  ppre1 = ppre1_of s.cfgr;
  ppre2 = ppre2_of s.cfgr;
  vos = step_of_power s;
}

-- the nodes of a choice, and those of the PLL where it is on
abbrev pub nodes_where : Bool → Facts → ClockChoice → Nodes
nodes_where on f c = record {
  vco_in = where_used on (vco_in_of f c);
  vco = where_used on (vco_of f c);
  sysclk = sysclk_of f c;
  hclk = hclk_of f c;
  pclk1 = pclk1_of f c;
  pclk2 = pclk2_of f c;
  tim1 = timer c.ppre1 (pclk1_of f c);
  tim2 = timer c.ppre2 (pclk2_of f c);
  clk48 = where_used on (clk48_of f c);
}

-- the nodes for the source in effect, and those of the PLL where PLLON is set
abbrev pub tree_of : Facts → State → Nodes
tree_of f s = nodes_where (bit_of 24 s.cr) f (choice_of s s.source)
