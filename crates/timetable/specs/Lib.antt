pub mod Record
pub mod Coding
pub mod Checks
pub mod Regime
pub mod Cursor
pub mod Stretch
pub mod Updates
