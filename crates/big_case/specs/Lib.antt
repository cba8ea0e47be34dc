pub mod Case
pub mod Rest
