pub mod ServedLemmas
pub mod Steps
