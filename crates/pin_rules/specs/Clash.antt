-- The first two uses that clash.
use Rattle.std.specs.Prelude.{◌≡◌, ◌<◌, ℕ, List, true, false, length, slice_index_or}
use Rattle.res_model.specs.declared.table.PinUse.{PinUse}
use Rattle.res_model.specs.declared.table.TableParts.{TableParts}
use Rattle.res_model.specs.Placement.{clashes}

-- they clash, and no pair before them does: the pairs stand by their first places, and then by their second
pub record IsFirstClash (t : TableParts) (us : List PinUse) (i j : ℕ) : Type 0 where
  pub order : i < j
  pub within : j < length us
  pub clash : (d : PinUse) → clashes t (slice_index_or us i d) (slice_index_or us j d) ≡ true
  pub before : (a b : ℕ) (d : PinUse) → a < i → a < b → b < length us → clashes t (slice_index_or us a d) (slice_index_or us b d) ≡ false
  pub beside : (b : ℕ) (d : PinUse) → i < b → b < j → clashes t (slice_index_or us i d) (slice_index_or us b d) ≡ false
