-- Choices of a row for each wanted request, and which of them are legal.
use Rattle.std.specs.Prelude.{◌≡◌, ◌≢◌, ℕ, ◌<◌, ◌==◌, ◌&&◌, List, [], ◌∷◌, length, map, Bool, true, not, slice_index_or}
use Rattle.std.specs.List.{list_any}
use Rattle.choice_rank.specs.declared.variable.Costs.TheVariants.{HomeFirst}
use Rattle.choice_rank.specs.declared.variable.VarShape.{VarShape}
use Rattle.dma_model.specs.declared.table.DmaRequest.{DmaRequest}
use Rattle.dma_model.specs.declared.table.DmaRow.{DmaRow}

-- a variable for each request, whose values are its rows in the order of the table; the first is its home
abbrev pub variable_of : DmaRequest → VarShape
variable_of r = record { size = length r.at; costs = HomeFirst }

abbrev pub shape_of : List DmaRequest → List VarShape
shape_of requests = map variable_of requests

-- what is read of a place past the end
abbrev pub no_row : DmaRow
no_row = record { controller = 0; stream = 0; channel = 0 }

abbrev pub no_request : DmaRequest
no_request = record { name = []; at = [] }

-- the row that a request has at a position
abbrev pub row_at : DmaRequest → ℕ → DmaRow
row_at r position = slice_index_or r.at position no_row

-- the rows of a choice, one for each request
abbrev pub rows_of : List DmaRequest → List ℕ → List DmaRow
rows_of [] choice = []
rows_of (r ∷ rs) [] = []
rows_of (r ∷ rs) (x ∷ xs) = row_at r x ∷ rows_of rs xs

-- one stream of one controller, on whichever channels: it serves one request at a time (RM0090, DMA channel selection)
abbrev pub is_one_stream : DmaRow → DmaRow → Bool
is_one_stream a b = a.controller == b.controller && a.stream == b.stream

-- no two rows are of one stream
abbrev pub are_apart : List DmaRow → Bool
are_apart [] = true
are_apart (r ∷ rs) = not (list_any (is_one_stream r) rs) && are_apart rs

-- no two requests take one stream
abbrev pub meets : List DmaRequest → List ℕ → Bool
meets requests choice = are_apart (rows_of requests choice)

-- the row that the request at a place has in a choice
abbrev pub row_of : List DmaRequest → List ℕ → ℕ → DmaRow
row_of requests choice place = slice_index_or (rows_of requests choice) place no_row

-- the rows of each two requests differ in controller or in stream
abbrev pub AreOnOwnStreams : List DmaRequest → List ℕ → Type 0
AreOnOwnStreams requests choice =
    (i j : ℕ) → i < j → j < length requests → (row_of requests choice i).controller ≡ (row_of requests choice j).controller → (row_of requests choice i).stream ≢ (row_of requests choice j).stream
