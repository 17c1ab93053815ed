pub mod Grammar
pub mod Faults
pub mod FaultLines
pub mod Ids
pub mod Making
pub mod SpellingLaws
pub mod Reading
pub mod InnerTraits
