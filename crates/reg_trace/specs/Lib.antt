pub mod Clean
pub mod Lines
pub mod Reading
pub mod Trace
pub mod Turn
