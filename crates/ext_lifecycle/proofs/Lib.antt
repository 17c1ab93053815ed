pub mod EndingLaws
pub mod Calling
pub mod Tallying
mod CallLists
pub mod OtherFaults
