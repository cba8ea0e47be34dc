pub mod OnLiterals
pub mod ProblemLemmas
pub mod ProjectLemmas
pub mod TableLemmas
