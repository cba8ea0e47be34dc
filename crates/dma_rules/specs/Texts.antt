-- What is printed of wanted requests.
use Rattle.std.specs.Prelude.{◌≡◌, ℕ, List, [], ◌∷◌, ◌++◌, None, codes, decimal, map}
use Rattle.answers.specs.Said.{answered}
use Rattle.answers.specs.declared.answer.Answer.{Answer}
use Rattle.answers.specs.declared.answer.Status.TheVariants.{Done, NoChoice}
use Rattle.choice_rank.specs.Choices.{choices_of, cost_of, rank_of}
use Rattle.choice_rank.specs.Least.{IsLeast, NoneLegal}
use Rattle.refutation.specs.Canonical.{IsCanonicalOf}
use Rattle.refutation.specs.Forms.{form_of}
use Rattle.refutation.specs.Spelling.{spelling}
use Rattle.refutation.specs.Trees.{IsAccepted}
use Rattle.refutation.specs.declared.node.Node.{Node}
use Rattle.search_api.specs.Meaning.{Meaning}
use Rattle.dma_model.specs.declared.table.DmaRequest.{DmaRequest}
use Rattle.dma_model.specs.declared.table.DmaRow.{DmaRow}
use Rattle.dma_rules.specs.Judged.{dma_meaning}
use Rattle.dma_rules.specs.Streams.{meets, rows_of, shape_of}

unfoldable pub rank_line : ℕ → ℕ → ℕ → List ℕ
rank_line rank cost choices = codes "rank " ++ decimal rank ++ codes " cost " ++ decimal cost ++ codes " of " ++ decimal choices ++ 10 ∷ []

unfoldable pub row_text : DmaRow → List ℕ
row_text r = codes " dma " ++ decimal r.controller ++ codes " stream " ++ decimal r.stream ++ codes " channel " ++ decimal r.channel ++ 10 ∷ []

abbrev pub request_line : DmaRequest → DmaRow → List ℕ
request_line request r = request.name ++ row_text r

-- a line for each request with its row
abbrev pub request_lines : List DmaRequest → List DmaRow → List ℕ
request_lines [] rows = []
request_lines (r ∷ rs) [] = []
request_lines (r ∷ rs) (row ∷ rows) = request_line r row ++ request_lines rs rows

-- the rank of a choice, and a line for each request in the order of the words
unfoldable pub dma_text : List DmaRequest → List ℕ → List ℕ
dma_text requests choice =
    rank_line (rank_of (shape_of requests) choice) (cost_of (shape_of requests) choice) (choices_of (shape_of requests)) ++ request_lines requests (rows_of requests choice)

-- the text of the nodes of the canonical tree under no bound, which is accepted
pub record IsRefutation (m : Meaning) (text : List ℕ) : Type 0 where
  pub nodes : List Node
  pub canonical : IsCanonicalOf m None nodes
  pub accepted : IsAccepted m None nodes
  pub text_is : text ≡ spelling None (map form_of nodes)

-- what is due for wanted requests: the least choice of rows, or the refutation of all choices
pub data OfWant (requests : List DmaRequest) (a : Answer) : Type 0 where
  served : (choice : List ℕ) → IsLeast (shape_of requests) (meets requests) choice → a ≡ answered Done (dma_text requests choice) → OfWant requests a
  refuted : (text : List ℕ) → NoneLegal (shape_of requests) (meets requests) → IsRefutation (dma_meaning requests) text → a ≡ answered NoChoice text → OfWant requests a
