pub mod AnswerLemmas
pub mod PlaceLemmas
pub mod ShapeLemmas
pub mod WorkLemmas
