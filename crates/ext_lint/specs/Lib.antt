pub mod Heights
pub mod InnerLists
pub mod Live
pub mod NodeSteps
pub mod NoteJson
pub mod NoteLines
pub mod Notes
pub mod Said
