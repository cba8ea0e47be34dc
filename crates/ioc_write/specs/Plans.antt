-- Internal: what is worked out once, before the lines are walked.
use Rattle.std.specs.Prelude.{◌≡◌, ◌≢◌, ℕ, ◌+◌, ◌*◌, ◌==◌, ◌<◌, List, length, Bool, false, Option, Some, None, position, slice_get, slice_index_or}
use Rattle.std.specs.Str.{bytes_eq}
use Rattle.choice_rank.specs.Choices.{IsChoice}
use Rattle.res_model.specs.Valid.{ArePins}
use Rattle.res_model.specs.declared.project.Signal.{Signal}
use Rattle.res_model.specs.declared.table.Pin.{Pin}
use Rattle.res_model.specs.declared.table.PinUse.{PinUse}
use Rattle.ioc_write.specs.WriteBack.{fate_of, uses_of}
use Rattle.ioc_write.specs.declared.fate.Fate.{Fate}
use Rattle.ioc_write.specs.declared.fate.Fate.TheVariants.{Kept}
use Rattle.ioc_write.specs.declared.plan.Plan.{Plan}

-- the pin is at this spot: its port times 16 plus its number
abbrev pub is_there : ℕ → Pin → Bool
is_there spot p = p.port * 16 + p.number == spot

-- the place of the pin at each of the first n spots
pub record AreSpots (pins : List Pin) (spots : List (Option ℕ)) (n : ℕ) : Type 0 where
  pub long : length spots ≡ n
  pub each : (spot : ℕ) → spot < n → slice_index_or spots spot None ≡ position (is_there spot) pins

abbrev pub has_name : Option Pin → List ℕ → Bool
has_name None name = false
has_name (Some p) name = bytes_eq p.name name

-- the pin at a place has the name
abbrev pub is_named : List Pin → ℕ → List ℕ → Bool
is_named pins place name = has_name (slice_get pins place) name

-- what becomes of the lines of each of the first n pins
pub record AreFates (ss : List Signal) (us : List PinUse) (fates : List Fate) (n : ℕ) : Type 0 where
  pub long : length fates ≡ n
  pub each : (pin : ℕ) → pin < n → slice_index_or fates pin Kept ≡ fate_of ss us pin

pub record IsPlan (plan : Plan) : Type 0 where
  pub choice : IsChoice plan.problem.now.shape plan.at.now
  pub whole : plan.problem.now.first ≢ 0
  pub pins : ArePins plan.problem.now.tables.pins
  pub spots : AreSpots plan.problem.now.tables.pins plan.spots 144
  pub fates : AreFates plan.problem.now.signals (uses_of plan.problem.now plan.at.now) plan.fates (length plan.problem.now.tables.pins)
