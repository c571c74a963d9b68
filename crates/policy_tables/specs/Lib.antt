pub mod View
pub mod Secrecy
pub mod Covered
