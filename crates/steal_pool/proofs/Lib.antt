mod CrewLemmas
mod EndLemmas
mod HandLemmas
mod JoinedLemmas
mod RowLemmas
mod WholeLemmas
