pub mod Beginnings
pub mod Cursors
pub mod Spans
pub mod Coding
pub mod Pointing
pub mod Records
pub mod Stretches
pub mod Unique
