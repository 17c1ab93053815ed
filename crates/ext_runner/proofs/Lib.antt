-- Lemmas of this crate.
pub mod Indices
pub mod Indenting
pub mod EarlierLines
pub mod IdTexts
pub mod Nodes
pub mod Reported
