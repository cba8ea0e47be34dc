pub mod FieldLemmas
pub mod OrderLemmas
pub mod TimingLemmas
pub mod WalkLemmas
