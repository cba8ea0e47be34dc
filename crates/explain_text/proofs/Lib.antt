pub mod JoinedLemmas
pub mod SetLemmas
pub mod ValueLemmas
pub mod WholeLemmas
