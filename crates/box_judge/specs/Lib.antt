pub mod Fits
pub mod Kept
pub mod Ready
pub mod Room
