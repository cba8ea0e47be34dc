pub mod Judged
pub mod Lawful
pub mod Room
pub mod Streams
pub mod Texts
pub mod Wanted
