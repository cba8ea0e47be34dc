-- What the line of a node says.
use Rattle.std.specs.Prelude.{◌≡◌, ℕ, zero, suc, ◌+◌, ◌-◌, ◌≤◌, ◌<◌, ◌^◌, ◌==◌, ◌&&◌, nat_lt, List, [], ◌∷◌, ◌++◌, Bool, Option, Some, None, if◌then◌else◌}
use Rattle.res_base.specs.declared.var_set.VarSet.{VarSet}
use Rattle.res_base.specs.VarSet.{in_set, NoneFrom, IsWords}
use Rattle.search_api.specs.declared.verdict.Class.{Class}
use Rattle.search_api.specs.declared.verdict.Reason.{Reason}
use Rattle.search_api.specs.declared.verdict.Reason.TheVariants as reason
use Rattle.refutation.specs.declared.node.Node.{Node}
use Rattle.refutation.specs.declared.node.Node.TheVariants as node

pub data Form : Type 0 where
  SplitForm : (variable after : ℕ) → Form
  HallForm : (class : Class) → (variables : List ℕ) → Form
  LimitForm : (limit : ℕ) → Form
  RankForm : Form
  WitnessForm : Form

-- the numbers below n that pass, ascending
abbrev pub below_in : ℕ → (ℕ → Bool) → List ℕ
below_in zero p = []
below_in (suc n) p = below_in n p ++ (if p n then n ∷ [] else [])

-- the members of a set, ascending
unfoldable pub members : VarSet → List ℕ
members s = below_in 192 (in_set s)

-- v joins a set whose members are all below a number, and is its greatest member from then on
pub record Joins (old new : VarSet) (least v : ℕ) : Type 0 where
  pub members_are : below_in (v + 1) (in_set new) ≡ below_in least (in_set old) ++ v ∷ []
  pub greatest : NoneFrom (in_set new) (v + 1)

abbrev pub form_of_reason : Reason → Form
form_of_reason (reason.Hall class vars) = HallForm class (members vars)
form_of_reason (reason.Limit limit) = LimitForm limit

abbrev pub form_of : Node → Form
form_of (node.Split variable after) = SplitForm variable after
form_of (node.Bad reason) = form_of_reason reason
form_of node.Rank = RankForm
form_of node.Witness = WitnessForm

-- how many trees are due after a node, where so many were
abbrev pub due_after : ℕ → Form → ℕ
due_after due (SplitForm variable after) = due + 1
due_after due (HallForm class variables) = due - 1
due_after due (LimitForm limit) = due - 1
due_after due RankForm = due - 1
due_after due WitnessForm = due - 1

-- the nodes make up so many trees
abbrev pub takes_up : ℕ → List Form → Bool
takes_up due [] = due == 0
takes_up due (f ∷ fs) = nat_lt 0 due && takes_up (due_after due f) fs

-- numbers below 170, from a least one on, each above the one before it
abbrev pub IsAscending : ℕ → List ℕ → Type 0
IsAscending least [] = Unit {0}
IsAscending least (v ∷ vs) = (least ≤ v) × (v < 170) × IsAscending (v + 1) vs

-- it is not empty
abbrev pub HasOne : List ℕ → Type 0
HasOne [] = ⊥
HasOne (v ∷ vs) = Unit {0}

-- what has a line
abbrev pub FitsForm : Form → Type 0
FitsForm (SplitForm variable after) = (variable < 170) × (after < 512)
FitsForm (HallForm class variables) = HasOne variables × IsAscending 0 variables
FitsForm (LimitForm limit) = (3 ≤ limit) × (limit ≤ 17)
FitsForm RankForm = Unit {0}
FitsForm WitnessForm = Unit {0}

abbrev pub FitsBound : Option ℕ → Type 0
FitsBound None = Unit {0}
FitsBound (Some rank) = rank < 2 ^ 63

-- the set of a reason is one of three words, as the type of sets keeps it
abbrev pub HasWords : Node → Type 0
HasWords (node.Split variable after) = Unit {0}
HasWords (node.Bad (reason.Hall class vars)) = IsWords vars
HasWords (node.Bad (reason.Limit limit)) = Unit {0}
HasWords node.Rank = Unit {0}
HasWords node.Witness = Unit {0}
