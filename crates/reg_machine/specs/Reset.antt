-- The state after reset (RM0090, the register maps), for a table and a target.
use Rattle.std.specs.Prelude.{ℕ, List, [], ◌∷◌, false}
use Rattle.res_model.specs.Power.{range_at, range_prefetches}
use Rattle.res_model.specs.declared.table.TableParts.{TableParts}
use Rattle.reg_machine.specs.Power.{vos_mask}
use Rattle.reg_machine.specs.declared.state.State.{State}
use Rattle.reg_machine.specs.declared.state.Target.{Target}

-- MODER, OTYPER, OSPEEDR, PUPDR, AFRL and AFRH of ports A to I
abbrev pub reset_gpio : List ℕ
reset_gpio =
    0xA8000000 ∷ 0 ∷ 0x0C000000 ∷ 0x64000000 ∷ 0 ∷ 0
    ∷ 0x00000280 ∷ 0 ∷ 0x000000C0 ∷ 0x00000100 ∷ 0 ∷ 0
    ∷ 0 ∷ 0 ∷ 0 ∷ 0 ∷ 0 ∷ 0
    ∷ 0 ∷ 0 ∷ 0 ∷ 0 ∷ 0 ∷ 0
    ∷ 0 ∷ 0 ∷ 0 ∷ 0 ∷ 0 ∷ 0
    ∷ 0 ∷ 0 ∷ 0 ∷ 0 ∷ 0 ∷ 0
    ∷ 0 ∷ 0 ∷ 0 ∷ 0 ∷ 0 ∷ 0
    ∷ 0 ∷ 0 ∷ 0 ∷ 0 ∷ 0 ∷ 0
    ∷ 0 ∷ 0 ∷ 0 ∷ 0 ∷ 0 ∷ 0
    ∷ []

-- HSI is on and in effect, VOS names scale 1, and nothing was written or read. Of RCC_CR's 0x83 bit 1 reads HSIRDY.
abbrev pub reset_of : TableParts → Target → State
reset_of t want =
    record {
      cr = 0x00000081;
      pllcfgr = 0x24003010;
      cfgr = 0;
      acr = 0;
      ahb1enr = 0x00100000;
      ahb_read = 0;
      apb1enr = 0;
      apb_read = 0;
      pwr_cr = vos_mask t.version;
      gpio = reset_gpio;
      hse_ready = false;
      pll_ready = false;
      latency = 0;
      source = 0;
      over_ready = false;
      over_switched = false;
      acr_written = false;
      polls = 0;
      osc_in = want.facts.osc_in;
      bypass = want.facts.bypass;
      prefetch = range_prefetches (range_at t want.facts.vdd);
      version = t.version;
    }

-- what a machine is: the table, what is wanted, and the state
pub record View : Type 0 where
  pub table : TableParts
  pub want : Target
  pub state : State

abbrev pub fresh : TableParts → Target → View
fresh t want = record { table = t; want = want; state = reset_of t want }
