pub mod InnerFlags
pub mod Known
pub mod KnownLaws
pub mod Slots
