pub mod Codes
pub mod Good
pub mod PinWrites
pub mod Writes
