pub mod View
pub mod Rules
pub mod Sent
pub mod Splitting
