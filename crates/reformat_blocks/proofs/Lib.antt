pub mod Hiding
pub mod BodyWalk
pub mod Assembled
pub mod Limits
pub mod Undone
