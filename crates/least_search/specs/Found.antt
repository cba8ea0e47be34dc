-- What a search for the least choice comes to.
use Rattle.std.specs.Prelude.{◌≡◌, None}
use Rattle.choice_rank.specs.Least.{IsLeast, NoneLegal}
use Rattle.refutation.specs.declared.node.Proof.{Proof}
use Rattle.refutation.specs.Canonical.{IsCanonicalOf}
use Rattle.refutation.specs.Trees.{IsAccepted}
use Rattle.search_api.specs.Meaning.{Meaning}
use Rattle.least_search.specs.declared.outcomes.Found.{Found}
use Rattle.least_search.specs.declared.outcomes.Found.TheVariants.{Choice, Nothing}

-- a proof under no bound, of the nodes of the canonical tree, which is accepted
pub record IsProof (m : Meaning) (proof : Proof) : Type 0 where
  pub bound : proof.bound ≡ None
  pub canonical : IsCanonicalOf m None proof.nodes
  pub accepted : IsAccepted m None proof.nodes

-- the least legal choice, or that none is legal, with its proof
abbrev pub IsFound : Meaning → Found → Type 0
IsFound m (Choice at) = IsLeast m.shape m.legal at.items
IsFound m (Nothing proof) = NoneLegal m.shape m.legal × IsProof m proof
