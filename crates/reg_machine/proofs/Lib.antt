pub mod FlagLemmas
pub mod LegalLemmas
pub mod SoundLemmas
pub mod TreeLemmas
