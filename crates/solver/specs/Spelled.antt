-- Internal: the text of a refutation, before it is refuted to be read.
use Rattle.std.specs.Prelude.{◌≡◌, ℕ, List, [], Bool, true, false, Option, map}
use Rattle.refutation.specs.declared.node.Node.{Node}
use Rattle.refutation.specs.Canonical.{IsCanonicalOf}
use Rattle.refutation.specs.Forms.{form_of}
use Rattle.refutation.specs.Spelling.{spelling}
use Rattle.refutation.specs.Trees.{IsAccepted}
use Rattle.search_api.specs.Meaning.{Meaning}

-- the text of the nodes of the canonical tree under a bound, which is accepted
pub record IsSpelled (m : Meaning) (bound : Option ℕ) (text : List ℕ) : Type 0 where
  pub nodes : List Node
  pub canonical : IsCanonicalOf m bound nodes
  pub accepted : IsAccepted m bound nodes
  pub text_is : text ≡ spelling bound (map form_of nodes)

-- such a text where it is asked for, and else none
abbrev pub IsAsked : Bool → Meaning → Option ℕ → List ℕ → Type 0
IsAsked false m bound text = text ≡ []
IsAsked true m bound text = IsSpelled m bound text
