pub mod Calls
pub mod Outcomes
pub mod Demand
pub mod Undisturbed
