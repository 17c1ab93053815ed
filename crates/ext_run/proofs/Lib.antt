mod CheckCounts
mod Drawn
pub mod Elements
mod FaultGroups
mod KeyLines
pub mod NearForms
mod OneReports
pub mod ReadBytes
pub mod RunReports
