-- The requests that words ask for.
use Rattle.std.specs.Prelude.{◌≡◌, ◌≢◌, ℕ, ◌+◌, ◌-◌, ◌≤◌, ◌<◌, List, [], length, map, slice_index_or, ◌⊎◌}
use Rattle.res_base.specs.Lists.{Each, Member, Pairwise}
use Rattle.dma_model.specs.Requests.{IsRequest}
use Rattle.dma_model.specs.declared.table.DmaRequest.{DmaRequest}
use Rattle.dma_rules.specs.declared.want.DmaFault.{DmaFault}
use Rattle.dma_rules.specs.declared.want.DmaFault.TheVariants.{Request}

-- each word names a request of the table, no two the same one, and these are the requests in the order of the words
pub record AreWanted (table : List DmaRequest) (words : List (List ℕ)) (requests : List DmaRequest) : Type 0 where
  pub named : map (λ (r : DmaRequest). r.name) requests ≡ words
  pub of_table : Each (λ (r : DmaRequest). Member r table) requests
  pub differ : Pairwise ◌≢◌ words

abbrev pub word_at : List (List ℕ) → ℕ → List ℕ
word_at words place = slice_index_or words place []

-- no request has this name
abbrev pub NamesNone : List DmaRequest → List ℕ → Type 0
NamesNone table word = Each (λ (r : DmaRequest). r.name ≢ word) table

-- an earlier word is the same
abbrev pub IsRepeated : List (List ℕ) → ℕ → Type 0
IsRepeated words place = (earlier : ℕ) × (earlier < place) × (word_at words earlier ≡ word_at words place)

-- the word at this place, from 0, asks for no request, or for one that was asked for
abbrev pub IsBad : List DmaRequest → List (List ℕ) → ℕ → Type 0
IsBad table words place = NamesNone table (word_at words place) ⊎ IsRepeated words place

-- the word at this place asks for this request, and no earlier word is the same
pub record IsAsked (table : List DmaRequest) (words : List (List ℕ)) (place : ℕ) (r : DmaRequest) : Type 0 where
  pub named : r.name ≡ word_at words place
  pub of_table : Member r table
  pub new : IsRepeated words place → ⊥

-- the word of this number, from 1, is the first that is bad
pub record IsFirstBad (table : List DmaRequest) (words : List (List ℕ)) (number : ℕ) : Type 0 where
  pub counted : (1 ≤ number) × (number ≤ length words)
  pub bad : IsBad table words (number - 1)
  pub first : (place : ℕ) → place + 1 < number → IsBad table words place → ⊥

-- the fault names the first word that is bad
abbrev pub IsRefused : List DmaRequest → List (List ℕ) → DmaFault → Type 0
IsRefused table words (Request number) = IsFirstBad table words number

-- what wanted requests keep: they are 1 to 16, as a table has them, and no two have one name
pub record IsWant (requests : List DmaRequest) : Type 0 where
  pub some : 1 ≤ length requests
  pub few : length requests ≤ 16
  pub each : Each IsRequest requests
  pub names_differ : Pairwise (λ (r s : DmaRequest). r.name ≢ s.name) requests
