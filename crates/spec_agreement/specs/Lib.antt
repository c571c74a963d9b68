pub mod ByHandshakes
pub mod Rows
