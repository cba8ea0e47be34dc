pub mod BoxIn
pub mod Boxes
pub mod Paths
