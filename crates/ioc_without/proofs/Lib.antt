pub mod CutLemmas
pub mod LeftLemmas
pub mod StartLemmas
