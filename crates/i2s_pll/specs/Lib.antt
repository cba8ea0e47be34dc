pub mod Choices
pub mod Due
pub mod Least
pub mod Machine
pub mod Run
pub mod Texts
pub mod Walk
