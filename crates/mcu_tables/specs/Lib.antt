pub use Rattle.res_model.specs.Valid
pub mod Seen
pub mod Table
