pub mod Again
pub mod Entries
pub mod Lines
pub mod Standing
