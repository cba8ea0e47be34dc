pub mod Handles
pub mod Parts
pub mod Tests
pub mod Word
