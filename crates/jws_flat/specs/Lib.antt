pub mod View
pub mod Signing
