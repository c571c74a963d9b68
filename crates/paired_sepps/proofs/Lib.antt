pub mod Ascii
pub mod Bytes
pub mod Ciphers
pub mod Holes
pub mod Blocks
pub mod Shipped
pub mod Answered
