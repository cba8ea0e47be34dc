pub mod ClockValues
pub mod Meets
pub mod Problem
pub mod Wishes
