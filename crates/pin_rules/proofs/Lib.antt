pub mod CostLemmas
pub mod FitLemmas
pub mod SizeLemmas
