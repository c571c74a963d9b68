pub mod Script
pub mod Documents
pub mod Summary
pub mod Texts
