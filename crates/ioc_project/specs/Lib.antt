pub use Rattle.res_model.specs.Placed
pub mod Laws
pub mod Project
pub mod Read
pub mod Tests
pub mod Views
