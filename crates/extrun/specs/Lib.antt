pub mod Flags
pub mod RunWords
pub mod CommandWords
pub mod CommandLine
pub mod Tasks
pub mod Times
pub mod Lines
