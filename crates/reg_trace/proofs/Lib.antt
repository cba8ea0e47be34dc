pub mod CleanLemmas
pub mod NumberLemmas
pub mod ReadLemmas
pub mod RunLemmas
pub mod TurnLemmas
