pub mod LawLemmas
pub mod OrderLemmas
pub mod PathLemmas
pub mod PrefixLemmas
pub mod RunLemmas
pub mod ShortLemmas
pub mod SizeLemmas
pub mod WalkLemmas
