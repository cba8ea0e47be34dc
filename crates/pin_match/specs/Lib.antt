pub mod Assignments
pub mod Hall
pub mod Largest
pub mod Pairs
pub mod Sets
pub mod Sizes
pub mod Walks
