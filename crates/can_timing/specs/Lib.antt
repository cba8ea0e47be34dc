pub mod Judged
pub mod Lawful
pub mod Order
pub mod Texts
pub mod Timings
pub mod Walk
