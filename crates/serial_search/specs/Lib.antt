pub mod Going
pub mod Tests
