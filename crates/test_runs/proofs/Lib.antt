-- Lemmas of this crate.
mod Spare
