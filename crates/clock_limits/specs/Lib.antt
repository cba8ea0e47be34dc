pub mod Fair
pub mod Laws
pub mod Numbered
pub mod Ranges
pub mod Room
pub mod Runs
