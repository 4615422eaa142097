pub mod Cycles
pub mod Placing
pub mod Judging
pub mod Unique
