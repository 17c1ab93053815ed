pub mod Keeping
pub mod Texts
pub mod Ranks
pub mod Starts
pub mod Indices
