pub mod Back
pub mod Plans
pub mod Reading
pub mod ReadsBack
pub mod Survey
pub mod WriteBack
