pub mod Openings
pub mod Digits
pub mod Sums
