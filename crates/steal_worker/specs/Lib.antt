pub mod Flows
pub mod Jobs
pub mod Walks
pub mod Workers
