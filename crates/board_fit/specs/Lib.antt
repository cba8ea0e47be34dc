pub mod Board
pub mod ByParts
pub mod Fixed
pub mod Leaf
pub mod Parts
pub mod Same
pub mod Texts
