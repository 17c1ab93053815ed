pub mod Ascii
pub mod Data
pub mod Nodes
pub mod Page
