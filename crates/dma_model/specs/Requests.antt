-- What each table of DMA requests keeps.
use Rattle.std.specs.Prelude.{◌≢◌, ◌≤◌, List, length}
use Rattle.res_base.specs.Lists.{Each, Pairwise}
use Rattle.res_model.specs.Valid.{IsText}
use Rattle.dma_model.specs.declared.table.DmaRequest.{DmaRequest}
use Rattle.dma_model.specs.declared.table.DmaRow.{DmaRow}

-- there are two controllers, of eight streams each, and a stream has eight channels (RM0090, DMA)
pub record IsRow (r : DmaRow) : Type 0 where
  pub controller : (1 ≤ r.controller) × (r.controller ≤ 2)
  pub stream : r.stream ≤ 7
  pub channel : r.channel ≤ 7

-- a text, and 1 to 8 rows of which no two are equal
pub record IsRequest (r : DmaRequest) : Type 0 where
  pub text : IsText r.name
  pub some_row : 1 ≤ length r.at
  pub few_rows : length r.at ≤ 8
  pub rows : Each IsRow r.at
  pub rows_differ : Pairwise (λ (a b : DmaRow). a ≢ b) r.at

-- at most 200 requests, no two of one name
pub record AreRequests (rs : List DmaRequest) : Type 0 where
  pub few : length rs ≤ 200
  pub each : Each IsRequest rs
  pub names_differ : Pairwise (λ (r s : DmaRequest). r.name ≢ s.name) rs
