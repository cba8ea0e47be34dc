pub mod Choices
pub mod Faults
pub mod Least
pub mod Weights
