-- Internal: when room fits a judge.
use Rattle.std.specs.Prelude.{◌≡◌, List, length}
use Rattle.dma_model.specs.declared.table.DmaRequest.{DmaRequest}
use Rattle.dma_rules.specs.declared.judge.DmaRoom.{DmaRoom}

-- a set for each request, and a matcher for as many
pub record IsRoom (requests : List DmaRequest) (room : DmaRoom) : Type 0 where
  pub sets : length room.sets.items ≡ length requests
  pub matcher : room.matcher ≡ record { variables = length requests; resources = 192 }
