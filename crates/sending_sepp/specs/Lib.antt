pub mod Outgoings
pub mod Sending
pub mod Outcome
