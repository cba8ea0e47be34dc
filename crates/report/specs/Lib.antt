pub mod Cases
pub mod PinText
pub mod Placed
pub mod Reported
