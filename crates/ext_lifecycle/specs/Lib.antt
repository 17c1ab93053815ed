pub use Rattle.ext_model.specs.Closed
pub mod Endings
pub mod Results
pub mod Lifecycle
pub mod Callbacks
pub mod FaultTexts
pub mod InnerTotals
pub mod Modes
