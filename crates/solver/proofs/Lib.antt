pub mod OpLemmas
pub mod ReadLemmas
