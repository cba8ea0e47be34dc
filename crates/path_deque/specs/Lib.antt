pub mod Ends
pub mod Tallies
