-- Which reasons have a line in a proof's text.
use Rattle.std.specs.Prelude.{◌≡◌, ℕ, ◌<◌, ◌≤◌, List, true}
use Rattle.res_base.specs.declared.var_set.VarSet.{VarSet}
use Rattle.res_base.specs.VarSet.{in_set}
use Rattle.box_split.specs.Boxes.{Run, IsBox}
use Rattle.search_api.specs.declared.verdict.Reason.{Reason}
use Rattle.search_api.specs.declared.verdict.Reason.TheVariants as reason
use Rattle.search_api.specs.declared.verdict.Verdict.TheVariants as verdict
use Rattle.search_api.specs.Meaning.{Meaning}

-- a Hall set that can be written: it has a member, and its members are numbers of variables
pub record HasMembers (vars : VarSet) : Type 0 where
  pub some : (v : ℕ) × (v < 192) × (in_set vars v ≡ true)
  pub variables : (v : ℕ) → v < 192 → in_set vars v ≡ true → v < 170

-- a limit that can be written is one of L3 to L17
abbrev pub HasLine : Reason → Type 0
HasLine (reason.Hall class vars) = HasMembers vars
HasLine (reason.Limit limit) = (3 ≤ limit) × (limit ≤ 17)

-- each reason of the judge has a line
abbrev pub ReasonsHaveLines : Meaning → Type 0
ReasonsHaveLines m = (reason : Reason) (box : List Run) → IsBox m.shape box → m.verdict box ≡ verdict.Bad reason → HasLine reason
