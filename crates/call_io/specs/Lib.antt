pub mod Gathered
pub mod Inputs
pub mod Ran
