pub mod AnswerLemmas
pub mod FractionLemmas
pub mod LeadLemmas
pub mod LineLemmas
pub mod RunLemmas
pub mod WalkLemmas
