pub mod BoxLemmas
pub mod LawLemmas
pub mod WantLemmas
