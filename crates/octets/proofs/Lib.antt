pub mod Reading
pub mod Writing
pub mod Words
pub mod RoundTrip
pub mod Unique
pub mod Cases
