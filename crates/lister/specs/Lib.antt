pub mod Ready
pub mod Opening
pub mod Lines
pub mod Pages
