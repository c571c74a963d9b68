pub mod Members
pub mod View
pub mod Reading
pub mod Waiting
pub mod Faults
pub mod Outcome
pub mod Replies
pub mod Progress
