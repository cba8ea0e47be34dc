-- The text of a refutation.
use Rattle.std.specs.Prelude.{◌≡◌, ℕ, ◌++◌, List, Ok, Option, map}
use Rattle.refutation.specs.declared.node.Node.{Node}
use Rattle.refutation.specs.Canonical.{IsCanonicalOf}
use Rattle.refutation.specs.Forms.{form_of}
use Rattle.refutation.specs.Reading.{proof_of}
use Rattle.refutation.specs.Spelling.{spelling}
use Rattle.refutation.specs.Trees.{IsAccepted}
use Rattle.search_api.specs.Meaning.{Meaning}

-- the text of the nodes of the canonical tree under a bound, which is accepted. Behind what is printed before it, it is read
-- as this very bound and these nodes
pub record IsRefutation (m : Meaning) (bound : Option ℕ) (before text : List ℕ) : Type 0 where
  pub nodes : List Node
  pub canonical : IsCanonicalOf m bound nodes
  pub accepted : IsAccepted m bound nodes
  pub text_is : text ≡ spelling bound (map form_of nodes)
  pub read : proof_of (before ++ text) ≡ Ok (bound, map form_of nodes)
