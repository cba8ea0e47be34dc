pub mod Due
pub mod Part
