pub mod Owed
pub mod Refutation
pub mod Spelled
