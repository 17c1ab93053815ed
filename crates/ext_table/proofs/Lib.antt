-- Lemmas of this crate.
pub mod Arranging
pub mod Building
pub mod Moves
pub mod Naming
pub mod Runnable
pub mod Sharing
pub mod TableRuns
pub mod Tries
