pub mod AnswerLemmas
pub mod FaultLemmas
pub mod FirstLemmas
pub mod LoopLemmas
pub mod PartLemmas
pub mod StackLemmas
