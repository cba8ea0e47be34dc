pub mod ClockLaws
pub mod FlashLaws
pub mod PinLaws
pub mod ReadLemmas
pub mod ScaleLemmas
pub mod SeenLemmas
pub mod SignalLaws
pub mod TableValid
