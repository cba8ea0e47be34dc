pub mod PositionLemmas
