mod Counted
pub mod Declared
pub mod KeyLists
pub mod KeysMade
pub mod Lists
pub mod Named
pub mod Names
pub mod NodeIds
pub mod PlanCalls
