pub mod Index
pub mod Lines
pub mod Outs
pub mod Without
