-- Proofs with ten added to the number of each variable.
use Rattle.std.specs.Prelude.{◌≡◌, ◌<◌, ◌+◌, ◌-◌, ◌&&◌, ℕ, true, map, nat_le}
use Rattle.res_base.specs.declared.var_set.VarSet.{VarSet}
use Rattle.res_base.specs.VarSet.{in_set}
use Rattle.pin_match.specs.Largest.{set_where}
use Rattle.refutation.specs.declared.node.Node.{Node}
use Rattle.refutation.specs.declared.node.Node.TheVariants as node
use Rattle.refutation.specs.declared.node.Proof.{Proof}
use Rattle.search_api.specs.declared.verdict.Reason.{Reason}
use Rattle.search_api.specs.declared.verdict.Reason.TheVariants.{Hall, Limit}

-- each member with ten added
unfoldable pub raised_set : VarSet → VarSet
raised_set s = set_where (λ v. nat_le 10 v && in_set s (v - 10))

abbrev pub raised_reason : Reason → Reason
raised_reason (Hall class vars) = Hall class (raised_set vars)
raised_reason (Limit k) = Limit k

abbrev pub raised_node : Node → Node
raised_node (node.Split variable after) = node.Split (variable + 10) after
raised_node (node.Bad reason) = node.Bad (raised_reason reason)
raised_node node.Rank = node.Rank
raised_node node.Witness = node.Witness

abbrev pub raised_proof : Proof → Proof
raised_proof p = record { bound = p.bound; nodes = map raised_node p.nodes }

-- the variables are numbers of signals where no clock variable stands before them: below 160
abbrev pub IsLowSet : VarSet → Type 0
IsLowSet s = (v : ℕ) → in_set s v ≡ true → v < 160

abbrev pub IsLowReason : Reason → Type 0
IsLowReason (Hall class vars) = IsLowSet vars
IsLowReason (Limit k) = Unit {0}

abbrev pub IsLow : Node → Type 0
IsLow (node.Split variable after) = variable < 160
IsLow (node.Bad reason) = IsLowReason reason
IsLow node.Rank = Unit {0}
IsLow node.Witness = Unit {0}
