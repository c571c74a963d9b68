pub mod Signed
pub mod Operations
pub mod Keys
pub mod Payloads
