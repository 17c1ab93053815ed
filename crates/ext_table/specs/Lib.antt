-- What the clauses of this crate speak of.
pub mod Arranging
pub mod Building
pub mod InnerSharing
pub mod Lending
pub mod Sharing
pub mod Stops
pub mod TableCalls
pub mod TableRuns
pub mod Tables
