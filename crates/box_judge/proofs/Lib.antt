pub mod HallLemmas
pub mod KeptLemmas
pub mod LimitLemmas
