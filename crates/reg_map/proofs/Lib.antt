pub mod BitLemmas
pub mod FieldLemmas
pub mod RegisterLemmas
pub mod ShiftLemmas
