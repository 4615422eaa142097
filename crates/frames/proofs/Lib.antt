pub mod Octets
pub mod Lasting
pub mod Classes
pub mod Closing
pub mod Frames
pub mod Decisions
pub mod Unique
