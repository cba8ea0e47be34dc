pub mod FlashLemmas
