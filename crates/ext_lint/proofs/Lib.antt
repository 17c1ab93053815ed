pub mod Counted
pub mod Lines
pub mod Numbers
pub mod Sets
pub mod Steps
