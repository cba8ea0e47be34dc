use Rattle.std.proofs.Common.{◌∙◌}
use Rattle.clock_limits.specs.Runs.{seen}
use Rattle.clock_limits.proofs.RoomLemmas.{room_of}
use Rattle.clock_limits.proofs.boxes.room_in.Goals as goal

pub returns : goal.returns
returns c =
    let x = c.over-x.ensures in
    c.room_by.ensures ∙ room_of c.args.t.now c.args.f.now (seen c.args.r.now) c.over-x.result x.vco_in x.vco x.clk48 x.sysclk x.hclk_reach x.hclk x.pclk1 x.pclk2
