mod Rising
mod Joined
pub mod Entries
mod Halving
