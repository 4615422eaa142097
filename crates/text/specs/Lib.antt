pub mod Put
pub mod Decimal
pub mod Input
pub mod Scan
