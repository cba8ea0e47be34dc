pub mod Contest
pub mod Inside
pub mod Judged
