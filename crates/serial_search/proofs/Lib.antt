pub mod GoingLemmas
pub mod OrderLemmas
pub mod WalkLemmas
