pub mod Faults
pub mod View
pub mod Answers
pub mod Edits
