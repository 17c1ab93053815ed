pub mod Agreeing
pub mod FlagBits
pub mod Flags
pub mod Learning
pub mod NotesLaws
