pub mod Frame
pub mod Ahead
pub mod Choosing
pub mod Decision
pub mod Deciding
pub mod Lengths
