-- Lemmas of this crate. `Runs` and `RunLaws` are for the crates that call it.
pub mod ByJob
pub mod Dealt
pub mod Draws
pub mod Lists
pub mod RunLaws
pub mod Runs
pub mod Shares
pub mod Slots
pub mod Totals
pub mod Turns
