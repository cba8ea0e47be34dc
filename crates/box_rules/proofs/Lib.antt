pub mod ClockLemmas
pub mod ContestLemmas
pub mod CountLemmas
pub mod JudgeLemmas
pub mod LawLemmas
pub mod MemberLemmas
pub mod WholeLemmas
