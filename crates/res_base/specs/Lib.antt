pub mod Fraction
pub mod Lists
pub mod Rows
pub mod Sums
pub mod VarSet
