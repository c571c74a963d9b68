pub mod Kept
mod Names
mod Held
pub mod Calls
