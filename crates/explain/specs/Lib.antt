pub mod Due
pub mod GiveUp
pub mod Going
pub mod Left
pub mod Things
