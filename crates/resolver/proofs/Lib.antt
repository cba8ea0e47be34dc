pub mod CaseLemmas
pub mod HomeLemmas
pub mod InputLemmas
pub mod StatusLemmas
