pub mod EndLemmas
pub mod FlowActs
mod LegalLemmas
pub mod WalkActs
