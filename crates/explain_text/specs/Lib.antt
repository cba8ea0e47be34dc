pub mod Changes
pub mod Figures
pub mod Joined
pub mod LimitNames
pub mod Names
pub mod Reasons
