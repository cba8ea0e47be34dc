pub mod Early
pub mod Lowest
