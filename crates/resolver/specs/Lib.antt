pub mod Due
pub mod HomeTree
pub mod Opening
pub mod Refusals
pub mod Refusing
pub mod Requests
