pub mod OpLemmas
pub mod PartLemmas
