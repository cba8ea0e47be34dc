use Rattle.res_model.specs.Power.{flash_rows}
use Rattle.power_flash.proofs.FlashLemmas.{covers_at, least_at, none_at}
use Rattle.power_flash.proofs.flash.least_wait.Goals as goal

pub returns-clause-covers : goal.returns-clause-covers
returns-clause-covers c = covers_at (flash_rows c.args.t.now c.args.vdd) c.args.hclk.now c.first_row.result (cc)

pub returns-clause-least : goal.returns-clause-least
returns-clause-least c = least_at (flash_rows c.args.t.now c.args.vdd) c.args.hclk.now c.first_row.result (cc)

pub returns-clause-none : goal.returns-clause-none
returns-clause-none c = none_at (flash_rows c.args.t.now c.args.vdd) c.args.hclk.now c.first_row.result (cc)
