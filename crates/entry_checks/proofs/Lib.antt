pub mod Routes
pub mod Operations
pub mod Sayings
pub mod Progressing
