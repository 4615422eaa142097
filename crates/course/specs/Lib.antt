pub mod Columns
pub mod Travel
pub mod Journey
pub mod Stretch
pub mod Period
