pub mod Closing
pub mod Names
pub mod Making
