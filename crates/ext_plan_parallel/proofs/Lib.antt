-- Lemmas of this crate.
mod Found
mod Locks
mod Mapped
mod Moves
mod Names
mod PlacedKeys
mod StepValues
mod Turning
mod Values
pub mod Ends
pub mod Runnable
pub mod Framed
pub mod Keyed
pub mod Placed
pub mod StepLists
