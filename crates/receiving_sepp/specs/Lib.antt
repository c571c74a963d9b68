pub mod Groups
pub mod Views
pub mod Refusing
pub mod Refilling
pub mod Outcome
pub mod Apart
