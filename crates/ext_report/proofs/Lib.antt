pub mod Lines
pub mod Groupings
mod SuiteCases
mod Orders
mod ContextLines
mod Indents
pub mod CharacterTexts
mod Suites
mod ClassNames
mod Attempts
mod Slowest
mod Types
