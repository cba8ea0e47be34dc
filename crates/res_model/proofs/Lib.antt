pub mod NameLemmas
pub mod NumberLaws
pub mod PlaceLaws
