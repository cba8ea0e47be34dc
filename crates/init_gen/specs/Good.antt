-- Which settings a table allows, and what is right at the end of a run.
use Rattle.std.specs.Prelude.{◌≡◌, ℕ, ◌<◌, Some}
use Rattle.res_base.specs.Lists.{Member}
use Rattle.res_model.specs.Clock.{IsInRange, hclk_of, nodes_of}
use Rattle.res_model.specs.Limits.{HseIsFed, VcoInIsWithin, VcoIsWithin, SysclkIsWithin, HclkIsWithinScale, Pclk1IsWithin, Pclk2IsWithin, PllIsUsedWithOver}
use Rattle.res_model.specs.Power.{RowCovers, range_at, range_prefetches}
use Rattle.res_model.specs.ClockValues.{ahb_dividers, apb_dividers, pll_dividers, known_steps}
use Rattle.res_model.specs.declared.clock.ClockChoice.{ClockChoice}
use Rattle.res_model.specs.declared.table.TableParts.{TableParts}
use Rattle.reg_machine.specs.Pins.{HaveModes}
use Rattle.reg_machine.specs.Power.{power_of}
use Rattle.reg_machine.specs.Tree.{tree_of}
use Rattle.reg_machine.specs.declared.state.State.{State}
use Rattle.init_gen.specs.PinWrites.{AreWhole}
use Rattle.init_gen.specs.Writes.{target_of}
use Rattle.init_gen.specs.declared.setting.Setting.{Setting}

-- a choice that the fields of a part hold, by the version of its table
pub record HasFields (version : ℕ) (c : ClockChoice) : Type 0 where
  pub range : IsInRange c
  pub hpre : Member c.hpre ahb_dividers
  pub p : Member c.p pll_dividers
  pub ppre1 : Member c.ppre1 apb_dividers
  pub ppre2 : Member c.ppre2 apb_dividers
  pub vos : Member c.vos (known_steps version)

pub record IsSettable (s : Setting) : Type 0 where
  pub clock : HasFields s.version s.clock
  pub wait : s.wait < 8
  pub pins : AreWhole s.pins

-- a setting that meets the limits of the table on clocks, under wait states that cover HCLK
pub record IsAllowed (t : TableParts) (s : Setting) : Type 0 where
  pub version : s.version ≡ t.version
  pub hse : HseIsFed t s.facts s.clock
  pub vco_in : VcoInIsWithin t s.facts s.clock
  pub vco : VcoIsWithin t s.facts s.clock
  pub sysclk : SysclkIsWithin t s.facts s.clock
  pub scale : HclkIsWithinScale t s.facts s.clock
  pub pclk1 : Pclk1IsWithin t s.facts s.clock
  pub pclk2 : Pclk2IsWithin t s.facts s.clock
  pub over : PllIsUsedWithOver t s.facts s.clock
  pub row : RowCovers t s.facts.vdd s.wait (hclk_of s.facts s.clock)
  pub prefetch : s.prefetch ≡ range_prefetches (range_at t s.facts.vdd)

-- at the end the clocks and the power step are those of the choice, and each pin has the mode that is wanted of it
pub record IsRight (s : Setting) (state : State) : Type 0 where
  pub nodes : tree_of s.facts state ≡ nodes_of s.facts s.clock
  pub power : power_of state ≡ Some s.clock.vos
  pub modes : HaveModes (target_of s).pins state.gpio
