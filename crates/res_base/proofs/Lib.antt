pub mod ListLemmas
pub mod SumLemmas
pub mod VarSetLemmas
