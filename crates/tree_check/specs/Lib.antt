pub mod Due
pub mod Faults
pub mod First
pub mod Sound
pub mod Tests
