-- What the clauses of this crate speak of.
pub mod Alone
pub mod AloneLaws
pub mod Changing
pub mod FullRuns
pub mod OneReport
pub mod Shares
pub mod ShownLacks
pub mod Within
pub mod WorkedPlans
