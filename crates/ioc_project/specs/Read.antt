-- What every project that was read keeps under its table.
use Rattle.std.specs.Prelude.{◌≡◌, ℕ, ◌<◌, ◌≤◌, ◌^◌, ◌&&◌, length, Bool, true, Ok}
use Rattle.res_base.specs.Lists.{Each}
use Rattle.res_model.specs.Placed.{IsPlaced}
use Rattle.ioc_project.specs.Project.{domain_tests, all_within, fixes_clock}
use Rattle.res_model.specs.declared.opts.Opts.{Opts}
use Rattle.res_model.specs.declared.project.Project.{Project}
use Rattle.res_model.specs.declared.table.TableParts.{TableParts}

pub record IsRead (t : TableParts) (opts : Opts) (clocks : Bool) (p : Project) : Type 0 where
  pub few : length p.signals ≤ 160
  pub placed : Each (IsPlaced t) p.signals
  pub hertz : t.hse_hz < 2 ^ 32 → p.hse_hz < 2 ^ 32
  -- fixed clock variables in play have their homes in their domains
  pub clock_within : (clocks && fixes_clock opts.free) ≡ true → all_within (domain_tests t.clock) p.clock ≡ Ok tt
