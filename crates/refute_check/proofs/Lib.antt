pub mod ClockLemmas
pub mod CountLemmas
