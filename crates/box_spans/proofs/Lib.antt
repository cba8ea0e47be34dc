pub mod EveryLemmas
