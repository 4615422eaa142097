pub mod Octets
pub mod Parts
