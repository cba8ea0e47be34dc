-- What is due for DMA requests and the bytes of a table.
use Rattle.std.specs.Prelude.{ℕ, List, ◌++◌, MatchResult, codes, decimal}
use Rattle.answers.specs.Said.{Says}
use Rattle.answers.specs.declared.answer.Answer.{Answer}
use Rattle.answers.specs.declared.answer.Status.TheVariants.{RequestRefused, TableRefused}
use Rattle.dma_rules.specs.Texts.{OfWant}
use Rattle.dma_rules.specs.Wanted.{AreWanted, IsFirstBad}
use Rattle.dma_table.specs.Reading.{dma_of}
use Rattle.dma_model.specs.declared.table.DmaRequest.{DmaRequest}
use Rattle.project_reading.specs.Refusals.{table_refusal}

-- the first word that names no request of the table, or one that was named before; or what is due for the requests that are named
pub data OfRequests (words : List (List ℕ)) (table : List DmaRequest) (a : Answer) : Type 0 where
  refused : (number : ℕ) → IsFirstBad table words number → Says a RequestRefused (codes "dma: request " ++ decimal number) → OfRequests words table a
  wanted : (requests : List DmaRequest) → AreWanted table words requests → OfWant requests a → OfRequests words table a

-- the table is read for its requests alone
abbrev pub OfRequestsIn : List (List ℕ) → List ℕ → Answer → Type 0
OfRequestsIn words text a = MatchResult (dma_of text) (λ table. OfRequests words table a) (λ fault. Says a TableRefused (table_refusal fault))
