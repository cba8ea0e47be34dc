pub mod Counting
pub use Rattle.tree_check.specs.Faults
