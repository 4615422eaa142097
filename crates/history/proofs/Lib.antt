pub mod Modelled
pub mod Runs
pub mod Given
pub mod Idle
pub mod Demand3
pub mod Steps
pub mod Undisturbed
pub mod Unique
