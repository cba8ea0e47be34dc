pub mod ChoiceLemmas
pub mod DigitLemmas
pub mod LeastLemmas
pub mod WeightLemmas
pub mod WidthLemmas
