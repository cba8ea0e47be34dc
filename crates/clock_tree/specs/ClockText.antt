-- The text of a clock choice with its nodes.
use Rattle.std.specs.Prelude.{ℕ, ◌/◌, List, ◌++◌, if◌then◌else◌, Option, Some, None, codes, decimal}
use Rattle.res_base.specs.Fraction.{Fraction}
use Rattle.res_model.specs.Clock.{hse_used, pll_used, nodes_of}
use Rattle.res_model.specs.ClockValues.{has_over, scale_of_step}
use Rattle.res_model.specs.declared.clock.ClockChoice.{ClockChoice}
use Rattle.res_model.specs.declared.clock.Facts.{Facts}
use Rattle.res_model.specs.declared.clock.Nodes.{Nodes}
use Rattle.res_model.specs.declared.clock.Src.{Src}
use Rattle.res_model.specs.declared.clock.Src.TheVariants.{Hsi, Hse, Pll}

abbrev pub source_word : Src → List ℕ
source_word Hsi = codes "HSI"
source_word Hse = codes "HSE"
source_word Pll = codes "PLL"

unfoldable pub source_line : ClockChoice → List ℕ
source_line c = codes "source " ++ source_word c.src ++ codes "\n"

-- source, M, N, P and Q of the PLL
unfoldable pub pll_words : ClockChoice → List ℕ
pll_words c =
    codes "pll " ++ source_word c.psrc ++ codes " " ++ decimal c.m ++ codes " " ++ decimal c.n ++ codes " " ++ decimal c.p ++ codes " " ++ decimal c.q ++ codes "\n"

unfoldable pub pll_line : Facts → ClockChoice → List ℕ
pll_line f c = if pll_used f c then pll_words c else codes "pll off\n"

unfoldable pub hse_line : Facts → ClockChoice → List ℕ
hse_line f c =
    if hse_used f c
    then codes "hse " ++ (if f.bypass then codes "bypass" else codes "crystal") ++ codes " " ++ decimal f.hse_hz ++ codes "\n"
    else codes "hse off\n"

-- behind the scale stands whether over-drive is on
abbrev pub over_word : ℕ → List ℕ
over_word step = if has_over step then codes " over\n" else codes "\n"

unfoldable pub divider_line : ClockChoice → List ℕ
divider_line c =
    codes "ahb " ++ decimal c.hpre ++ codes " apb1 " ++ decimal c.ppre1 ++ codes " apb2 " ++ decimal c.ppre2 ++ codes " vos " ++ decimal (scale_of_step c.vos) ++ over_word c.vos

abbrev pub floor : Fraction → ℕ
floor x = x.num / x.den

-- a node's name and its floor in hertz
unfoldable pub node_line : List ℕ → ℕ → List ℕ
node_line name hertz = name ++ codes " " ++ decimal hertz ++ codes "\n"

unfoldable pub off_line : List ℕ → List ℕ
off_line name = name ++ codes " off\n"

abbrev pub pll_node_line : List ℕ → Option Fraction → List ℕ
pll_node_line name None = off_line name
pll_node_line name (Some x) = node_line name (floor x)

unfoldable pub choice_lines : Facts → ClockChoice → List ℕ
choice_lines f c = source_line c ++ pll_line f c ++ hse_line f c ++ divider_line c

unfoldable pub first_nodes : Nodes → List ℕ
first_nodes n =
    pll_node_line (codes "VCO_IN") n.vco_in
    ++ pll_node_line (codes "VCO") n.vco
    ++ node_line (codes "SYSCLK") (floor n.sysclk)
    ++ node_line (codes "HCLK") (floor n.hclk)

unfoldable pub last_nodes : Nodes → List ℕ
last_nodes n =
    node_line (codes "PCLK1") (floor n.pclk1)
    ++ node_line (codes "PCLK2") (floor n.pclk2)
    ++ node_line (codes "APB1TIM") (floor n.tim1)
    ++ node_line (codes "APB2TIM") (floor n.tim2)
    ++ pll_node_line (codes "CLK48") n.clk48

abbrev pub wait_word : Option ℕ → List ℕ
wait_word None = codes "none"
wait_word (Some wait) = decimal wait

-- the supply voltage in millivolts and the wait states
unfoldable pub supply_line : ℕ → List ℕ → List ℕ
supply_line vdd wait = codes "vdd " ++ decimal vdd ++ codes " wait " ++ wait ++ codes "\n"

unfoldable pub clock_text : Facts → ClockChoice → Option ℕ → List ℕ
clock_text f c wait =
    codes "clock\n" ++ choice_lines f c ++ first_nodes (nodes_of f c) ++ last_nodes (nodes_of f c) ++ supply_line f.vdd (wait_word wait)
