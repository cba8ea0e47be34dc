pub mod Clash
pub mod Laws
pub mod Sizes
