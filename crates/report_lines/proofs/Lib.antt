pub mod CLemmas
pub mod LineLemmas
pub mod ReportLemmas
