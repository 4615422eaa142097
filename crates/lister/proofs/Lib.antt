pub mod Opened
pub mod Order
pub mod Texts
pub mod Striding
pub mod Unique
