-- The DMA requests that the bytes of a table say, or the first fault.
use Rattle.std.specs.Prelude.{ℕ, ◌==◌, ◌&&◌, List, codes, Bool, Option, Some, option_and_then, Result, Ok}
use Rattle.std.specs.List.{list_any}
use Rattle.std.specs.Str.{bytes_eq}
use Rattle.table_members.specs.Json.{and_no_more, json_of}
use Rattle.table_members.specs.Forms.{EntryForm, Form, due, fresh, list, member, number_within, object, text, top}
use Rattle.table_members.specs.declared.fault.TableFault.{TableFault}
use Rattle.table_members.specs.declared.fault.TableFault.TheVariants.{BadField, NotJson}
use Rattle.res_model.specs.Steps.{◌>>=◌}
use Rattle.serde_json.specs.Data.{Data}
use Rattle.serde_json.specs.Find.{at}
use Rattle.dma_model.specs.declared.table.DmaRequest.{DmaRequest}
use Rattle.dma_model.specs.declared.table.DmaRow.{DmaRow}

-- the entries of a list of three
unfoldable pub three : Data → Option (Data × Data × Data)
three d = option_and_then (λ a. option_and_then (λ b. option_and_then (λ c. and_no_more (at 3 d) (a, b, c)) (at 2 d)) (at 1 d)) (at 0 d)

abbrev pub is_same_row : DmaRow → DmaRow → Bool
is_same_row a b = a.controller == b.controller && (a.stream == b.stream && a.channel == b.channel)

-- a row that no row before equals
unfoldable pub new_row : List DmaRow → List ℕ → DmaRow → Result DmaRow TableFault
new_row before path r = fresh path (list_any (is_same_row r) before) r

-- a list of controller, stream and channel
unfoldable pub row : EntryForm DmaRow
row before path d = do
  ds ← due (BadField path) (three d)
  controller ← number_within 1 2 path ds.0
  stream ← number_within 0 7 path ds.1
  channel ← number_within 0 7 path ds.2
  new_row before path (record { controller = controller; stream = stream; channel = channel })

-- a name that no request before has
unfoldable pub request_name : List DmaRequest → Form (List ℕ)
request_name before path d = do
  name ← text path d
  fresh path (list_any (λ r. bytes_eq r.name name) before) name

unfoldable pub request : EntryForm DmaRequest
request before path d = do
  o ← object path d
  name ← member (request_name before) path (codes "name") o
  rows ← member (list 1 8 row) path (codes "at") o
  Ok (record { name = name; at = rows })

-- of the table's members this one alone is read
unfoldable pub requests : Data → Result (List DmaRequest) TableFault
requests d = top (list 0 200 request) (codes "dma") d

unfoldable pub dma_of : List ℕ → Result (List DmaRequest) TableFault
dma_of bytes = do
  d ← due NotJson (json_of bytes)
  requests d
