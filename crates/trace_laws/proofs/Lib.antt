pub mod HomeLaws
pub mod NameLaws
