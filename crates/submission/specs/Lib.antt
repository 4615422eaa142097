pub mod Judgement
pub mod Placement
