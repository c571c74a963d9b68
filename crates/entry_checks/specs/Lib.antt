pub mod Views
pub mod Verifiers
pub mod Answers
pub mod Steps
