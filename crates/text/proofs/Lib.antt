pub mod Putting
pub mod Decimals
pub mod Finding
pub mod Sameness
pub mod Unique
