pub mod Following
pub mod Screening
