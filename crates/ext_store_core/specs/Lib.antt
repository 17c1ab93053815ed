pub mod ContextCalls
pub mod InnerLooking
pub mod InnerRefusals
pub mod Claiming
pub mod InnerClaiming
pub mod Waiting
pub mod RefusalTexts
