pub use Rattle.ext_model.specs.Closed
pub mod Lanes
pub mod Sealing
pub mod Closing
pub mod Closes
pub mod InnerSteps
