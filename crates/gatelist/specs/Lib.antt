pub mod Coding
pub mod Sound
pub mod Places
pub mod Lookup
pub mod Promises
