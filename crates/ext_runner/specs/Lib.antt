-- What the clauses of this crate speak of.
pub mod InnerCommand
pub mod InnerEarlierRuns
pub mod InnerSelecting
pub mod Selecting
pub mod InnerTelling
