pub mod AllowedLemmas
pub mod PinLemmas
