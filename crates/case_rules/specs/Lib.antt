pub mod CaseProblem
pub mod CaseProject
pub mod CaseTable
pub mod Options
