pub mod Ends
pub mod Events
pub mod Fits
pub mod Runs
pub mod Turns
