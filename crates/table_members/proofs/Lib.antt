pub mod EntryLemmas
pub mod FormLaws
pub mod JsonLemmas
pub mod ListLaws
