-- Refutations that are one leaf.
use Rattle.std.specs.Prelude.{◌≡◌, List, [], ◌∷◌}
use Rattle.refutation.specs.declared.node.Node.{Node}
use Rattle.refutation.specs.declared.node.Node.TheVariants as node
use Rattle.res_base.specs.declared.var_set.VarSet.{VarSet}
use Rattle.search_api.specs.declared.verdict.Class.{Class}
use Rattle.search_api.specs.declared.verdict.Reason.TheVariants as reason

-- the one node is a leaf whose reason is a set of signals that are more than their resources
pub record IsHallLeaf (nodes : List Node) : Type 0 where
  pub class : Class
  pub vars : VarSet
  pub is : nodes ≡ node.Bad (reason.Hall class vars) ∷ []
