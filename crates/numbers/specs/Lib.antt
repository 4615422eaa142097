pub mod Groups
pub mod Writing
