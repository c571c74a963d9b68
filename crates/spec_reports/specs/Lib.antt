pub mod Report
pub mod Document
pub mod Rows
