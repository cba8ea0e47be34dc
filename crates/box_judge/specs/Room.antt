-- Internal: room for the sets of those that compete.
use Rattle.std.specs.Prelude.{◌≡◌, ◌≤◌, List, length}
use Rattle.res_model.specs.declared.table.PinUse.{PinUse}
use Rattle.search_api.specs.declared.verdict.Class.{Class}
use Rattle.box_judge.specs.declared.contest.Contest.{Contest}
use Rattle.box_rules.specs.Contest.{members_of}

-- the room is for the signals of the class
pub record IsContest (class : Class) (uses : List (List PinUse)) (c : Contest) : Type 0 where
  pub members : c.members.items ≡ members_of class 0 uses
  pub sets : length c.sets.items ≡ length c.members.items
  pub few : length uses ≤ 170
  pub matcher : c.matcher ≡ record { variables = length c.members.items; resources = 192 }
